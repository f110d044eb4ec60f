use Rattle.zs_entity_tables.proofs.Counted.{below_fewer, counted_fewer}
use Rattle.zs_world.proofs.session_tables.SessionTables.end_listener.Goals as goal

pub invariant_of-self : goal.invariant_of-self
invariant_of-self c =
    let s = c.self.inside in
    record {
      subs = c.self.invariant.subs;
      pubs = c.self.invariant.pubs;
      queryables = c.self.invariant.queryables;
      queriers = c.self.invariant.queriers;
      listening = below_fewer s.next_entity _ s.matching _ c.end.ensures.kept c.self.invariant.listening;
      counted = counted_fewer s.tables.rows s.queryables _ s.matching _ c.end.ensures.kept c.self.invariant.counted;
    }
