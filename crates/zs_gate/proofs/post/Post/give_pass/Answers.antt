use Rattle.std.proofs.Common.{rules, ap, ◌∙◌}
use Rattle.zs_gate.proofs.Moves.{gives_pass_splits}
use Rattle.zs_gate.proofs.post.Post.give_pass.Goals as goal

pub split_seat-seat-requires : goal.split_seat-seat-requires
split_seat-seat-requires c = (search rules, search rules, gives_pass_splits _ _ c.requires.0 (ap (λ p. p.knows) c.self.view_is ∙ c.requires.1) c.requires.2)
