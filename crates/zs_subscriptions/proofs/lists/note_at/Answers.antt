use Rattle.std.proofs.Common.{Option, sym, ap, subst}
use Rattle.std.specs.Prelude.{is_some, IfSome}
use Rattle.zs_subscriptions.specs.Lists.{Listed, shown}
use Rattle.zs_subscriptions.specs.NumberRows.{joined, HasRoom}
use Rattle.zs_subscriptions.specs.declared.number_row.NumberRow.{NumberRow}
use Rattle.zs_subscriptions.proofs.Stepping.{changed_none, changed_at}
use Rattle.zs_subscriptions.proofs.Listing.{rows_same, rows_written}
use Rattle.zs_subscriptions.proofs.lists.note_at.Goals as goal

pub returns-in_default-clause-rows : goal.returns-in_default-clause-rows
returns-in_default-clause-rows c = rows_same c.args.rows.now _ c.requires.rows c.find_mut.follows.holds-at-none

pub returns-in_default-clause-list : goal.returns-in_default-clause-list
returns-in_default-clause-list c = changed_none shown (joined c.args.id) c.args.number c.args.rows.now _ c.in_default.ensures.value c.find_mut.follows.holds-at-none

pub returns-clause-rows : goal.returns-clause-rows
returns-clause-rows c =
    let w = c.note_one.new.row in
    rows_written c.args.number c.in-Some.row.now w c.args.rows.now _ c.requires.rows c.in-Some.ensures.value (ap (λ (n : Listed). n.number) c.note_one.ensures) (c.find_mut.follows.holds w).0

pub returns-clause-list : goal.returns-clause-list
returns-clause-list c =
    let w = c.note_one.new.row in
    changed_at shown (joined c.args.id) c.args.number c.in-Some.row.now w c.args.rows.now _ c.in-Some.ensures.value ((c.find_mut.follows.holds w).1 (sym (ap is_some c.in-Some.ensures.value))) c.note_one.ensures

pub note_one-requires : goal.note_one-requires
note_one-requires c = subst (λ (o : Option NumberRow). IfSome o HasRoom) (sym c.in-Some.ensures.value) c.requires.room
