use Rattle.std.proofs.Common.{rules, ap, ◌∙◌}
use Rattle.zs_gate.proofs.Moves.{drain_allowed}
use Rattle.zs_gate.proofs.post.Post.mark.Goals as goal

pub fetch_or-requires : goal.fetch_or-requires
fetch_or-requires c = (search rules, search rules, drain_allowed _ _ _ c.requires.0 (ap (λ p. p.knows) c.self.view_is ∙ c.requires.1))
