use Rattle.std.proofs.Common.{◌≡◌, sym, ◌∙◌, ap}
use Rattle.zs_model.specs.declared.publisher.PubRow.{PubRow}
use Rattle.zs_subscriptions.specs.declared.subscriber.SubRow.{SubRow}
use Rattle.zs_tables.specs.declared.queryable.QueryableRow.{QueryableRow}
use Rattle.zs_model.specs.declared.querier.QuerierRow.{QuerierRow}
use Rattle.zs_world.specs.World.{World}
use Rattle.zs_entity_tables.proofs.Bounds.{rows_push, rows_weaker}
use Rattle.zs_tables.specs.declared.listener.Listener.{Listener}
use Rattle.zs_world.proofs.session_tables.SessionTables.add_pub.Goals as goal

pub invariant_of-self-2 : goal.invariant_of-self-2
invariant_of-self-2 c =
    let id : c.args.row.id ≡ c.self.inside.next_entity = c.requires.0 ∙ sym (ap (λ (w : World). w.counters.entity) c.self.view_is) in
    record {
      pubs = rw (c.in_ok-add_to_group.ensures.table) (rows_push (λ (row : PubRow). row.id) c.self.inside.next_entity c.self.inside.publishers c.args.row id c.self.invariant.pubs);
      subs = rows_weaker (λ (row : SubRow). row.id) c.self.inside.next_entity c.self.inside.tables.rows c.self.invariant.subs;
      queryables = rows_weaker (λ (row : QueryableRow). row.id) c.self.inside.next_entity c.self.inside.queryables c.self.invariant.queryables;
      queriers = rows_weaker (λ (row : QuerierRow). row.id) c.self.inside.next_entity c.self.inside.queriers c.self.invariant.queriers;
      listening = rows_weaker (λ (l : Listener). l.row.id) c.self.inside.next_entity c.self.inside.matching.listeners c.self.invariant.listening;
      counted = c.self.invariant.counted;
    }
