use Rattle.std.proofs.Common.{ap, ◌∙◌}
use Rattle.std.specs.Prelude.{◌==◌, not, filter}
use Rattle.zs_entity_tables.proofs.EntityRows.{entities_less, entity_gone}
use Rattle.zs_entity_tables.proofs.entity_table.EntityTable.remove.Goals as goal

pub invariant_of-self : goal.invariant_of-self
invariant_of-self g c = entities_less (λ row. (g.R.Entity.shared row).id) c.args.id c.self.inside.rows c.remove.new.self c.self.invariant c.remove.ensures.rows c.remove.ensures.ascending

pub returns : goal.returns
returns g c =
    entity_gone (λ row. (g.R.Entity.shared row).id) c.args.id c.self.inside.rows c.remove.new.self c.self.invariant c.remove.ensures.rows
    ∙ ap (filter (λ row. not ((g.R.Entity.shared row).id == c.args.id))) c.self.view_is
