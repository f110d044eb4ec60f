use Rattle.std.proofs.Common.{◌≡◌, ◌-◌, ap, sym, ◌∙◌}
use Rattle.std.specs.Option.{unwrap_or}
use Rattle.zs_entity_tables.specs.DeclaredKeys.{holders_of, lowered}
use Rattle.zs_entity_tables.specs.HolderCounts.{HolderCounts, held_rows}
use Rattle.zs_entity_tables.proofs.HolderCounts.{count_is, lowered_is, lowered_none}
use Rattle.zs_entity_tables.proofs.key_holders.KeyHolderCounts.lower.Goals as goal

pub returns-in_default : goal.returns-in_default
returns-in_default c =
    ap (λ m. held_rows m.entries) c.get_mut.follows.holds-at-none
    ∙ lowered_none c.args.number c.self.inside.by_number.entries c.self.invariant (sym c.in_default.ensures.value)
    ∙ ap (λ (h : HolderCounts). lowered c.args.number h.rows) c.self.view_is

pub returns : goal.returns
returns c =
    let counted : c.in-Some.count.now ≡ holders_of c.args.number (held_rows c.self.inside.by_number.entries) =
    ap (λ o. unwrap_or o 0) c.in-Some.ensures.value ∙ count_is c.args.number c.self.inside.by_number.entries c.self.invariant in
    ap held_rows ((c.get_mut.follows.holds c.saturating_sub.result).0)
    ∙ lowered_is c.args.number c.self.inside.by_number.entries c.self.invariant c.saturating_sub.result (c.saturating_sub.ensures ∙ ap (λ k. k - 1) counted)
    ∙ ap (λ (h : HolderCounts). lowered c.args.number h.rows) c.self.view_is
