use Rattle.std.proofs.Common.{◌≡◌, ap, ◌++◌, [], ◌∷◌, ◌∙◌}
use Rattle.zs_entity_tables.proofs.EntityRows.{unused_above, entities_more, entity_last}
use Rattle.zs_entity_tables.proofs.entity_table.EntityTable.add.Goals as goal

pub insert-requires : goal.insert-requires
insert-requires g c = rw c.id-id.ensures (unused_above (λ row. (g.R.Entity.shared row).id) c.args.row c.self.inside.rows c.self.invariant (rw (← c.self.view_is) at c.requires))

pub invariant_of-self-2 : goal.invariant_of-self-2
invariant_of-self-2 g c =
    entities_more (λ row. (g.R.Entity.shared row).id) c.args.row c.self.inside.rows c.insert.new.self c.self.invariant (rw c.id-id.ensures at c.in_ok-insert.ensures.rows) c.in_ok-insert.ensures.ascending

pub returns-clause-ok : goal.returns-clause-ok
returns-clause-ok g c =
    entity_last (λ row. (g.R.Entity.shared row).id) c.args.row c.self.inside.rows c.insert.new.self c.self.invariant (rw (← c.self.view_is) at c.requires) (rw c.id-id.ensures at c.in_ok-insert.ensures.rows)
    ∙ ap (λ rows. rows ++ c.args.row ∷ []) c.self.view_is
