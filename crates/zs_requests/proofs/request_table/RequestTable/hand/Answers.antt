use Rattle.std.proofs.Common.{rules, ◌≢◌, ◌+◌, [], length}
use Rattle.zs_requests.proofs.Drawing.{none_used, below_request, request_is}
use Rattle.zs_requests.proofs.request_table.RequestTable.hand.Goals as goal

pub hand-requires-clause-unused : goal.hand-requires-clause-unused
hand-requires-clause-unused c = none_used c.self.inside.next (c.self.inside.next + length c.args.queryables.now) c.self.inside.requests.values c.self.invariant

pub invariant_of-self-2 : goal.invariant_of-self-2
invariant_of-self-2 c = rw c.in_ok-hand.ensures.ok (below_request c.self.inside.next c.args.row c.args.queryables.now c.self.inside.requests c.self.invariant)

pub returns-clause-ok : goal.returns-clause-ok
returns-clause-ok c =
    let some : c.args.queryables.now ≢ [] = search rules in
    rw (← c.self.view_is, c.in_ok-hand.ensures.ok) (request_is c.self.inside.next c.args.row c.args.queryables.now c.self.inside.requests some c.self.invariant)
