use Rattle.std.proofs.Common.{◌≡◌, ◌+◌, true, sym, ◌∙◌}
use Rattle.std.specs.Prelude.{is_some}
use Rattle.zs_requests.specs.Unfinished.{value_at}
use Rattle.zs_requests.proofs.Drawing.{none_used, below_share, share_is}
use Rattle.zs_requests.proofs.request_table.RequestTable.share.Goals as goal

pub share-requires-clause-unused : goal.share-requires-clause-unused
share-requires-clause-unused c = none_used c.self.inside.next (c.self.inside.next + 1) c.self.inside.requests.values c.self.invariant

pub invariant_of-self-then-branch : goal.invariant_of-self-then-branch
invariant_of-self-then-branch c =
    let values = c.self.inside.requests.values in
    let some : is_some (value_at c.args.value values) ≡ true = sym c.in_ok-share.ensures.answer ∙ c.if-branch.true in
    rw c.in_ok-share.ensures.ok (below_share c.self.inside.next (value_at c.args.value values) values some c.self.invariant)

pub returns-then-branch-clause-ok : goal.returns-then-branch-clause-ok
returns-then-branch-clause-ok c =
    let values = c.self.inside.requests.values in
    let some : is_some (value_at c.args.value values) ≡ true = sym c.in_ok-share.ensures.answer ∙ c.if-branch.true in
    rw (← c.self.view_is, c.in_ok-share.ensures.ok) (share_is c.self.inside.next c.args.value c.self.inside.requests some c.self.invariant)
