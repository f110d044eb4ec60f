use Rattle.std.proofs.Common.{rules, ap, ◌∙◌}
use Rattle.zs_gate.proofs.Moves.{look_alone_allowed}
use Rattle.zs_gate.proofs.post.Post.look_alone.Goals as goal

pub load-requires : goal.load-requires
load-requires c = (search rules, search rules, look_alone_allowed _ _ _ c.requires.0 c.requires.1 (ap (λ p. p.knows) c.self.view_is ∙ c.requires.2))
