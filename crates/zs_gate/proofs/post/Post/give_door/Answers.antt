use Rattle.std.proofs.Common.{rules, ap, ◌∙◌}
use Rattle.zs_gate.proofs.Moves.{gives_door_splits}
use Rattle.zs_gate.proofs.post.Post.give_door.Goals as goal

pub split_seat-seat-requires : goal.split_seat-seat-requires
split_seat-seat-requires c = (search rules, search rules, gives_door_splits _ _ (ap (λ p. p.knows) c.self.view_is ∙ c.requires))
