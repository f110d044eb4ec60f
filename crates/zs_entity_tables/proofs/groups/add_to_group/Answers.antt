use Rattle.std.proofs.Common.{◌∙◌}
use Rattle.std.specs.Prelude.{◌==◌, not, filter}
use Rattle.zs_entity_tables.proofs.Bounds.{push_undone}
use Rattle.zs_entity_tables.proofs.groups.add_to_group.Goals as goal

pub returns-in-Err-clause-same_table : goal.returns-in-Err-clause-same_table
returns-in-Err-clause-same_table g c =
    c.remove.ensures ∙ (λ i. filter (λ row. not ((g.R.Entity.shared row).id == c.id-id.ensures i)) (c.in_ok-add.ensures.ok i))
    ∙ push_undone (λ row. (g.R.Entity.shared row).id) c.args.table.now c.args.row c.requires
