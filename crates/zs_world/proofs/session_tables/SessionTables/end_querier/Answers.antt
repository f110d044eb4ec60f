use Rattle.zs_model.specs.declared.querier.QuerierRow.{QuerierRow}
use Rattle.zs_entity_tables.proofs.Bounds.{rows_less}
use Rattle.zs_entity_tables.proofs.Counted.{below_fewer, counted_fewer}
use Rattle.zs_world.proofs.session_tables.SessionTables.end_querier.Goals as goal

pub invariant_of-self : goal.invariant_of-self
invariant_of-self c = record {
  subs = c.self.invariant.subs;
  pubs = c.self.invariant.pubs;
  queryables = c.self.invariant.queryables;
  queriers = rw c.remove.ensures (rows_less (λ (row : QuerierRow). row.id) c.self.inside.next_entity c.args.id _ c.self.invariant.queriers);
  listening = below_fewer c.self.inside.next_entity _ c.self.inside.matching _ c.end_of.ensures.kept c.self.invariant.listening;
  counted = counted_fewer c.self.inside.tables.rows c.self.inside.queryables _ c.self.inside.matching _ c.end_of.ensures.kept c.self.invariant.counted;
}
