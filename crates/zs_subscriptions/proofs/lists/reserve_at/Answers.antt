use Rattle.std.proofs.Common.{sym, ap}
use Rattle.std.specs.Prelude.{is_some}
use Rattle.zs_subscriptions.specs.Lists.{Listed, shown}
use Rattle.zs_subscriptions.specs.NumberRows.{kept}
use Rattle.zs_subscriptions.proofs.Indexing.{on_ok}
use Rattle.zs_subscriptions.proofs.Stepping.{changed_none, changed_at}
use Rattle.zs_subscriptions.proofs.Listing.{rows_same, rows_written, room_none, room_written}
use Rattle.zs_subscriptions.proofs.lists.reserve_at.Goals as goal

pub returns-in_default-clause-rows : goal.returns-in_default-clause-rows
returns-in_default-clause-rows c = rows_same c.args.rows.now _ c.requires c.find_mut.follows.holds-at-none

pub returns-in_default-clause-same : goal.returns-in_default-clause-same
returns-in_default-clause-same c = changed_none shown kept c.args.number c.args.rows.now _ c.in_default.ensures.value c.find_mut.follows.holds-at-none

pub returns-in_default-clause-room : goal.returns-in_default-clause-room
returns-in_default-clause-room c = room_none c.args.number c.args.rows.now _ c.in_default.ensures.value c.find_mut.follows.holds-at-none

pub returns-clause-rows : goal.returns-clause-rows
returns-clause-rows c =
    let w = c.reserve_one.new.row in
    rows_written c.args.number c.in-Some.row.now w c.args.rows.now _ c.requires c.in-Some.ensures.value (ap (λ (n : Listed). n.number) c.reserve_one.ensures.same) (c.find_mut.follows.holds w).0

pub returns-clause-same : goal.returns-clause-same
returns-clause-same c =
    let w = c.reserve_one.new.row in
    changed_at shown kept c.args.number c.in-Some.row.now w c.args.rows.now _ c.in-Some.ensures.value ((c.find_mut.follows.holds w).1 (sym (ap is_some c.in-Some.ensures.value))) c.reserve_one.ensures.same

pub returns-clause-room : goal.returns-clause-room
returns-clause-room c =
    let w = c.reserve_one.new.row in
    on_ok c.reserve_one.result (room_written c.args.number w c.args.rows.now _ ((c.find_mut.follows.holds w).1 (sym (ap is_some c.in-Some.ensures.value)))) c.reserve_one.ensures.room
