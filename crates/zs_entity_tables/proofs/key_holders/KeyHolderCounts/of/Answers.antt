use Rattle.std.proofs.Common.{ap, ◌∙◌}
use Rattle.std.specs.Option.{unwrap_or}
use Rattle.zs_entity_tables.specs.DeclaredKeys.{holders_of}
use Rattle.zs_entity_tables.specs.HolderCounts.{HolderCounts}
use Rattle.zs_entity_tables.proofs.HolderCounts.{count_is}
use Rattle.zs_entity_tables.proofs.key_holders.KeyHolderCounts.of.Goals as goal

pub returns : goal.returns
returns c =
    c.unwrap_or.ensures
    ∙ ap (λ o. unwrap_or o 0) (c.copied.ensures ∙ c.get.ensures.value)
    ∙ count_is c.args.number c.self.inside.by_number.entries c.self.invariant
    ∙ ap (λ (h : HolderCounts). holders_of c.args.number h.rows) c.self.view_is
