use Rattle.std.proofs.Common.{◌≡◌, rules, ap, sym, ◌∙◌}
use Rattle.zs_posts.specs.declared.numbering.View.TheVariants.{Tag, Both}
use Rattle.zs_posts.specs.Numbering.{both, tagged_gate}
use Rattle.zs_posts.proofs.Rooms.{pair_joins, compare_allowed}
use Rattle.zs_posts.proofs.tag.Tag.agrees.Goals as goal

pub join_seat-requires : goal.join_seat-requires
join_seat-requires c =
    let same : c.other.inside.seat.table_id ≡ c.self.inside.seat.table_id = ap (λ t. t.room) c.other.view_is ∙ (c.requires.room ∙ sym (ap (λ t. t.room) c.self.view_is)) in
    let number : c.other.inside.number ≡ c.self.inside.number = ap (λ t. t.number) c.other.view_is ∙ (c.requires.number ∙ sym (ap (λ t. t.number) c.self.view_is)) in
    let its = c.other.invariant.2 ∙ ap (λ n. Tag n (tagged_gate c.other.inside.seat.me.0)) number in
    (search rules, (cc), search rules, search rules, pair_joins _ _ _ _ _ _ _ c.self.invariant.2 its)

pub load-requires : goal.load-requires
load-requires c =
    let number : c.other.inside.number ≡ c.self.inside.number = ap (λ t. t.number) c.other.view_is ∙ (c.requires.number ∙ sym (ap (λ t. t.number) c.self.view_is)) in
    let its = c.other.invariant.2 ∙ ap (λ n. Tag n (tagged_gate c.other.inside.seat.me.0)) number in
    let is = ap (λ m. m.0) c.join_seat.ensures.2 ∙ (λ i. both (c.self.invariant.2 i) (its i)) in
    (search rules, search rules, compare_allowed _ _ _ _ _ _ is)
