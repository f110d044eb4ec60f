use Rattle.std.proofs.Common.{◌≡◌, rules, sym, ap, ◌∙◌}
use Rattle.zs_gate.proofs.Moves.{clash_joins, check_allowed}
use Rattle.zs_gate.proofs.post.Post.clash.Goals as goal

pub join_seat-requires : goal.join_seat-requires
join_seat-requires c =
    let same : c.inside.inside.seat.table_id ≡ c.self.inside.seat.table_id = ap (λ p. p.gate) c.inside.view_is ∙ ap (λ p. p.gate) c.requires.inside ∙ sym (ap (λ p. p.gate) c.self.view_is) in
    let knows = ap (λ p. p.knows) c.self.view_is ∙ c.requires.keeper.1 in
    let its = ap (λ p. p.knows) c.inside.view_is ∙ ap (λ p. p.knows) c.requires.inside in
    (search rules, (cc), search rules, search rules, clash_joins _ _ _ _ c.requires.keeper.0 knows its)

pub load-requires : goal.load-requires
load-requires c = (search rules, search rules, check_allowed _ _ _)
