use Rattle.std.proofs.Common.{◌≡◌, rules, sym, ap, ◌∙◌}
use Rattle.zs_gate.proofs.Moves.{takes_door_joins}
use Rattle.zs_gate.proofs.post.Post.take_door.Goals as goal

pub join_seat-requires : goal.join_seat-requires
join_seat-requires c =
    let same : c.door.inside.seat.table_id ≡ c.self.inside.seat.table_id = ap (λ p. p.gate) c.door.view_is ∙ ap (λ p. p.gate) c.requires.door ∙ sym (ap (λ p. p.gate) c.self.view_is) in
    let knows = ap (λ p. p.knows) c.self.view_is ∙ c.requires.keeper in
    let its = ap (λ p. p.knows) c.door.view_is ∙ ap (λ p. p.knows) c.requires.door in
    (search rules, (cc), search rules, search rules, takes_door_joins _ _ _ _ knows its)
