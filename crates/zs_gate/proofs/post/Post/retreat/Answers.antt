use Rattle.std.proofs.Common.{rules, ap, ◌∙◌}
use Rattle.zs_gate.proofs.Moves.{retreat_allowed}
use Rattle.zs_gate.proofs.post.Post.retreat.Goals as goal

pub fetch_sub-found-requires : goal.fetch_sub-found-requires
fetch_sub-found-requires c = (search rules, search rules, retreat_allowed _ _ _ (ap (λ p. p.knows) c.self.view_is ∙ c.requires))
