use Rattle.std.proofs.Common.{◌∙◌}
use Rattle.zs_tables.specs.declared.queryable.QueryableRow.{QueryableRow}
use Rattle.zs_entity_tables.proofs.Bounds.{rows_less}
use Rattle.zs_tables.proofs.Moving.{queryable_goes}
use Rattle.zs_entity_tables.proofs.Counted.{below_set, counted_moved}
use Rattle.zs_world.proofs.session_tables.SessionTables.end_queryable.Goals as goal

pub invariant_of-self : goal.invariant_of-self
invariant_of-self c =
    let all = rw (c.own_queryable_of-goes.ensures, c.listeners.ensures) at c.in_ok-recounts.ensures.all in
    let up = rw c.listeners.ensures at c.recounts_of.ensures.ascending in
    record {
      subs = c.self.invariant.subs;
      pubs = c.self.invariant.pubs;
      queryables = rw c.remove.ensures.rows (rows_less (λ (row : QueryableRow). row.id) c.self.inside.next_entity c.args.id _ c.self.invariant.queryables);
      queriers = c.self.invariant.queriers;
      listening = below_set c.self.inside.next_entity c.deref.result.now c.self.inside.matching _ c.recount.ensures.kept c.self.invariant.listening;
      counted = rw c.remove.ensures.rows
          (counted_moved c.self.inside.tables.rows c.self.inside.tables.rows c.self.inside.queryables _ _ _ _ c.self.inside.matching _ c.recount.ensures.kept (c.deref.ensures.value ∙ all) up (queryable_goes c.self.inside.tables.rows c.self.inside.queryables c.self.inside.matching.remote_entities c.args.id c.len-ascending.ensures.ascending) c.self.invariant.counted);
    }
