use Rattle.std.proofs.Common.{◌≡◌, List, sym, ap, ◌∙◌}
use Rattle.zs_subscriptions.specs.declared.subscriber.SubRow.{SubRow}
use Rattle.zs_tables.specs.declared.queryable.QueryableRow.{QueryableRow}
use Rattle.zs_tables.specs.declared.listener.Listener.{Listener}
use Rattle.zs_tables.specs.Matching.{Candidate, candidates, count_of}
use Rattle.zs_model.specs.declared.publisher.PubRow.{PubRow}
use Rattle.zs_model.specs.declared.querier.QuerierRow.{QuerierRow}
use Rattle.zs_world.specs.World.{World, present_at}
use Rattle.zs_entity_tables.proofs.Bounds.{rows_weaker}
use Rattle.zs_entity_tables.proofs.Counted.{below_added, counted_added}
use Rattle.zs_world.proofs.session_tables.SessionTables.add_listener.Goals as goal

pub invariant_of-self-2 : goal.invariant_of-self-2
invariant_of-self-2 c =
    let s = c.self.inside in
    let next = s.next_entity in
    let id : c.args.row.id ≡ next = c.requires.0 ∙ sym (ap (λ (w : World). w.counters.entity) c.self.view_is) in
    let l : Listener = record { row = c.args.row; count = c.in_ok-count.count } in
    let many : c.in_ok-count.count ≡ count_of (candidates s.tables.rows s.queryables s.matching.remote_entities) c.args.row =
    c.in_ok-count.ensures ∙ ap (λ (cs : List Candidate). count_of cs c.args.row) (c.present.ensures ∙ ap present_at (sym c.self.view_is)) in
    record {
      subs = rows_weaker (λ (row : SubRow). row.id) next s.tables.rows c.self.invariant.subs;
      pubs = rows_weaker (λ (row : PubRow). row.id) next s.publishers c.self.invariant.pubs;
      queryables = rows_weaker (λ (row : QueryableRow). row.id) next s.queryables c.self.invariant.queryables;
      queriers = rows_weaker (λ (row : QuerierRow). row.id) next s.queriers c.self.invariant.queriers;
      listening = below_added next l s.matching _ c.in_ok-add.ensures.ok id c.self.invariant.listening;
      counted = counted_added s.tables.rows s.queryables l s.matching _ c.in_ok-add.ensures.ok many c.self.invariant.counted;
    }
