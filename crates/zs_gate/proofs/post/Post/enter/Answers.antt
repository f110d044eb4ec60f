use Rattle.std.proofs.Common.{rules, ap, ◌∙◌}
use Rattle.zs_gate.proofs.Moves.{enter_allowed}
use Rattle.zs_gate.proofs.post.Post.enter.Goals as goal

pub fetch_add-requires : goal.fetch_add-requires
fetch_add-requires c = (search rules, search rules, enter_allowed _ _ _ c.requires.0 (ap (λ p. p.knows) c.self.view_is ∙ c.requires.1))
