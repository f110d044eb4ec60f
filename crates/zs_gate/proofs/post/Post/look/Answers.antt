use Rattle.std.proofs.Common.{rules, ap, ◌∙◌}
use Rattle.zs_gate.proofs.Moves.{look_allowed}
use Rattle.zs_gate.proofs.post.Post.look.Goals as goal

pub load-requires : goal.load-requires
load-requires c = (search rules, search rules, look_allowed _ _ _ c.requires.0 c.requires.1 (ap (λ p. p.knows) c.self.view_is ∙ c.requires.2))
