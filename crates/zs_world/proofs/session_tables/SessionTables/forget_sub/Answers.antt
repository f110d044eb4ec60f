use Rattle.std.proofs.Common.{◌∙◌}
use Rattle.zs_tables.proofs.Moving.{remote_subscriber_goes}
use Rattle.zs_entity_tables.proofs.Counted.{below_told, counted_told}
use Rattle.zs_world.proofs.session_tables.SessionTables.forget_sub.Goals as goal

pub invariant_of-self : goal.invariant_of-self
invariant_of-self c =
    let s = c.self.inside in
    let moves = remote_subscriber_goes s.tables.rows s.queryables s.matching.remote_entities c.args.number (rw c.remote_entities.ensures at c.sub_count-ascending.ensures.ascending) in
    let all = rw (c.remote_subscriber_of-goes.ensures, c.remote_entities-2.ensures, c.listeners.ensures) at c.in_ok-recounts.ensures.all in
    let seen = rw c.listeners.ensures at c.recounts_of.ensures.ascending in
    record {
      subs = c.self.invariant.subs;
      pubs = c.self.invariant.pubs;
      queryables = c.self.invariant.queryables;
      queriers = c.self.invariant.queriers;
      listening = below_told s.next_entity _ c.deref.result.now s.matching _ _ c.forget_sub.ensures c.recount.ensures.kept c.self.invariant.listening;
      counted = counted_told s.tables.rows s.queryables _ _ _ _ s.matching _ _ c.forget_sub.ensures c.recount.ensures.kept (c.deref.ensures.value ∙ all) seen moves c.self.invariant.counted;
    }
