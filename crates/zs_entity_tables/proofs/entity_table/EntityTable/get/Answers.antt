use Rattle.std.proofs.Common.{ap, ◌∙◌}
use Rattle.std.specs.Prelude.{◌==◌}
use Rattle.std.specs.List.{find}
use Rattle.zs_rows.proofs.Numbered.{row_of_number}
use Rattle.zs_entity_tables.proofs.entity_table.EntityTable.get.Goals as goal

pub returns : goal.returns
returns g c =
    c.find.ensures ∙ (row_of_number (λ row. (g.R.Entity.shared row).id) c.args.id c.self.inside.rows c.self.invariant.numbered ∙ ap (find (λ row. (g.R.Entity.shared row).id == c.args.id)) c.self.view_is)
