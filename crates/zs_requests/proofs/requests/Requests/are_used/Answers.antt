use Rattle.std.proofs.Common.{◌∙◌, ap}
use Rattle.zs_requests.specs.Unfinished.{Unfinished, are_used}
use Rattle.zs_requests.proofs.Filed.{used_is}
use Rattle.zs_requests.proofs.requests.Requests.are_used.Goals as goal

pub returns : goal.returns
returns c = c.is_used.ensures ∙ (used_is c.args.first c.args.end c.self.inside.values c.self.invariant.numbered ∙ ap (λ (u : Unfinished). are_used c.args.first c.args.end u.values) c.self.view_is)
