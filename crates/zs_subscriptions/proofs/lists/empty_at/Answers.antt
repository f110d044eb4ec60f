use Rattle.std.proofs.Common.{sym, ap}
use Rattle.std.specs.Prelude.{is_some}
use Rattle.zs_subscriptions.specs.Lists.{Listed, shown, emptied}
use Rattle.zs_subscriptions.proofs.Stepping.{changed_none, changed_at}
use Rattle.zs_subscriptions.proofs.Listing.{rows_same, rows_written}
use Rattle.zs_subscriptions.proofs.lists.empty_at.Goals as goal

pub returns-in_default-clause-rows : goal.returns-in_default-clause-rows
returns-in_default-clause-rows c = rows_same c.args.rows.now _ c.requires c.find_mut.follows.holds-at-none

pub returns-in_default-clause-list : goal.returns-in_default-clause-list
returns-in_default-clause-list c = changed_none shown emptied c.args.number c.args.rows.now _ c.in_default.ensures.value c.find_mut.follows.holds-at-none

pub returns-clause-rows : goal.returns-clause-rows
returns-clause-rows c =
    let w = c.empty.new.row in
    rows_written c.args.number c.in-Some.row.now w c.args.rows.now _ c.requires c.in-Some.ensures.value (ap (λ (n : Listed). n.number) c.empty.ensures) (c.find_mut.follows.holds w).0

pub returns-clause-list : goal.returns-clause-list
returns-clause-list c =
    let w = c.empty.new.row in
    changed_at shown emptied c.args.number c.in-Some.row.now w c.args.rows.now _ c.in-Some.ensures.value ((c.find_mut.follows.holds w).1 (sym (ap is_some c.in-Some.ensures.value))) c.empty.ensures
