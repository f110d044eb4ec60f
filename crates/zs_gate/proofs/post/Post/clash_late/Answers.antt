use Rattle.std.proofs.Common.{◌≡◌, rules, sym, ap, ◌∙◌}
use Rattle.zs_gate.proofs.Moves.{late_joins, check_allowed}
use Rattle.zs_gate.proofs.post.Post.clash_late.Goals as goal

pub join_seat-requires : goal.join_seat-requires
join_seat-requires c =
    let same : c.late.inside.seat.table_id ≡ c.self.inside.seat.table_id = ap (λ p. p.gate) c.late.view_is ∙ ap (λ p. p.gate) c.requires.late ∙ sym (ap (λ p. p.gate) c.self.view_is) in
    let knows = ap (λ p. p.knows) c.self.view_is ∙ c.requires.keeper in
    let its = ap (λ p. p.knows) c.late.view_is ∙ ap (λ p. p.knows) c.requires.late in
    (search rules, (cc), search rules, search rules, late_joins _ _ _ _ knows its)

pub load-requires : goal.load-requires
load-requires c = (search rules, search rules, check_allowed _ _ _)
