use Rattle.std.proofs.Common.{◌≡◌, sym, ◌∙◌, ap}
use Rattle.zs_model.specs.declared.publisher.PubRow.{PubRow}
use Rattle.zs_subscriptions.specs.declared.subscriber.SubRow.{SubRow}
use Rattle.zs_tables.specs.declared.queryable.QueryableRow.{QueryableRow}
use Rattle.zs_model.specs.declared.querier.QuerierRow.{QuerierRow}
use Rattle.zs_world.specs.World.{World}
use Rattle.zs_entity_tables.proofs.Bounds.{rows_push, rows_weaker}
use Rattle.zs_tables.specs.declared.listener.Listener.{Listener}
use Rattle.zs_tables.proofs.Moving.{queryable_comes}
use Rattle.zs_entity_tables.proofs.Counted.{below_set, counted_moved}
use Rattle.zs_world.proofs.session_tables.SessionTables.add_queryable.Goals as goal

pub invariant_of-self-2 : goal.invariant_of-self-2
invariant_of-self-2 c =
    let id : c.args.row.id ≡ c.self.inside.next_entity = c.requires.0 ∙ sym (ap (λ (w : World). w.counters.entity) c.self.view_is) in
    let all = rw (c.own_queryable.ensures, c.listeners.ensures) at c.in_ok-recounts.ensures.all in
    let seen = rw c.listeners.ensures at c.recounts_of.ensures.ascending in
    record {
      subs = rows_weaker (λ (row : SubRow). row.id) c.self.inside.next_entity c.self.inside.tables.rows c.self.invariant.subs;
      pubs = rows_weaker (λ (row : PubRow). row.id) c.self.inside.next_entity c.self.inside.publishers c.self.invariant.pubs;
      queryables = rw (c.in_ok-add.ensures.ok) (rows_push (λ (row : QueryableRow). row.id) c.self.inside.next_entity c.self.inside.queryables c.args.row id c.self.invariant.queryables);
      queriers = rows_weaker (λ (row : QuerierRow). row.id) c.self.inside.next_entity c.self.inside.queriers c.self.invariant.queriers;
      listening = rows_weaker (λ (l : Listener). l.row.id) c.self.inside.next_entity _ (below_set c.self.inside.next_entity c.deref.result.now c.self.inside.matching _ c.recount.ensures.kept c.self.invariant.listening);
      counted = rw c.in_ok-add.ensures.ok
          (counted_moved c.self.inside.tables.rows c.self.inside.tables.rows c.self.inside.queryables _ _ _ _ c.self.inside.matching _ c.recount.ensures.kept (c.deref.ensures.value ∙ all) seen (queryable_comes c.self.inside.tables.rows c.self.inside.queryables c.self.inside.matching.remote_entities c.args.row) c.self.invariant.counted);
    }
