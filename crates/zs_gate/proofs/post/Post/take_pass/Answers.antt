use Rattle.std.proofs.Common.{◌≡◌, rules, sym, ap, ◌∙◌}
use Rattle.zs_gate.proofs.Moves.{takes_pass_joins, check_allowed}
use Rattle.zs_gate.proofs.post.Post.take_pass.Goals as goal

pub join_seat-requires : goal.join_seat-requires
join_seat-requires c =
    let same : c.pass.inside.seat.table_id ≡ c.self.inside.seat.table_id = ap (λ p. p.gate) c.pass.view_is ∙ ap (λ p. p.gate) c.requires.pass.1 ∙ sym (ap (λ p. p.gate) c.self.view_is) in
    let knows = ap (λ p. p.knows) c.self.view_is ∙ c.requires.door.1 in
    let its = ap (λ p. p.knows) c.pass.view_is ∙ ap (λ p. p.knows) c.requires.pass.1 in
    (search rules, (cc), search rules, search rules, takes_pass_joins _ _ _ _ c.requires.door.0 c.requires.pass.0 knows its)

pub load-requires : goal.load-requires
load-requires c = (search rules, search rules, check_allowed _ _ _)
