use Rattle.std.proofs.Common.{◌≡◌, sym, ◌∙◌, ap}
use Rattle.zs_model.specs.declared.publisher.PubRow.{PubRow}
use Rattle.zs_model.specs.declared.querier.QuerierRow.{QuerierRow}
use Rattle.zs_subscriptions.specs.declared.subscriber.SubRow.{SubRow}
use Rattle.zs_tables.specs.declared.queryable.QueryableRow.{QueryableRow}
use Rattle.zs_world.specs.World.{World}
use Rattle.zs_entity_tables.proofs.Bounds.{rows_push, rows_weaker}
use Rattle.zs_tables.specs.declared.listener.Listener.{Listener}
use Rattle.zs_world.proofs.session_tables.SessionTables.add_querier.Goals as goal

pub invariant_of-self-2 : goal.invariant_of-self-2
invariant_of-self-2 c =
    let id : c.args.row.id ≡ c.self.inside.next_entity = c.requires.0 ∙ sym (ap (λ (w : World). w.counters.entity) c.self.view_is) in
    record {
      subs = rows_weaker (λ (row : SubRow). row.id) c.self.inside.next_entity c.self.inside.tables.rows c.self.invariant.subs;
      pubs = rows_weaker (λ (row : PubRow). row.id) c.self.inside.next_entity c.self.inside.publishers c.self.invariant.pubs;
      queryables = rows_weaker (λ (row : QueryableRow). row.id) c.self.inside.next_entity c.self.inside.queryables c.self.invariant.queryables;
      queriers = rw (c.in_ok-add_to_group.ensures.table) (rows_push (λ (row : QuerierRow). row.id) c.self.inside.next_entity c.self.inside.queriers c.args.row id c.self.invariant.queriers);
      listening = rows_weaker (λ (l : Listener). l.row.id) c.self.inside.next_entity c.self.inside.matching.listeners c.self.invariant.listening;
      counted = c.self.invariant.counted;
    }
