use Rattle.std.proofs.Common.{ap, ◌∙◌}
use Rattle.std.specs.Prelude.{◌==◌}
use Rattle.std.specs.List.{list_any}
use Rattle.zs_keyed.proofs.Numbered.{any_at}
use Rattle.zs_entity_tables.proofs.entity_table.EntityTable.has.Goals as goal

pub returns : goal.returns
returns g c =
    c.has.ensures ∙ (any_at (λ row. (g.R.Entity.shared row).id) c.args.id c.self.inside.rows c.self.invariant.numbered ∙ ap (list_any (λ row. (g.R.Entity.shared row).id == c.args.id)) c.self.view_is)
