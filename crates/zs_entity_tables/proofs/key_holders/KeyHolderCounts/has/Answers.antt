use Rattle.std.proofs.Common.{nat_lt, ap, ◌∙◌}
use Rattle.std.specs.Option.{unwrap_or}
use Rattle.zs_entity_tables.specs.DeclaredKeys.{has_holder}
use Rattle.zs_entity_tables.specs.HolderCounts.{HolderCounts}
use Rattle.zs_entity_tables.proofs.HolderCounts.{has_from}
use Rattle.zs_entity_tables.proofs.key_holders.KeyHolderCounts.has.Goals as goal

pub returns-in-Some : goal.returns-in-Some
returns-in-Some c =
    ap (λ o. nat_lt 0 (unwrap_or o 0)) c.in-Some.ensures.value
    ∙ has_from c.args.number c.self.inside.by_number.entries c.self.invariant
    ∙ ap (λ (h : HolderCounts). has_holder c.args.number h.rows) c.self.view_is

pub returns-in-None : goal.returns-in-None
returns-in-None c =
    ap (λ o. nat_lt 0 (unwrap_or o 0)) c.in-None.ensures.value
    ∙ has_from c.args.number c.self.inside.by_number.entries c.self.invariant
    ∙ ap (λ (h : HolderCounts). has_holder c.args.number h.rows) c.self.view_is
