use Rattle.std.proofs.Common.{◌≡◌, ◌∙◌, ℕ, List, is_some, sym, refl, false, ap}
use Rattle.zs_events.specs.declared.turn.Kind.{Kind}
use Rattle.zs_events.specs.declared.turn.Kind.TheVariants.{Subscriber, LivelinessSubscriber, Publisher, Queryable, Querier, Token, Listener, Get, LivelinessGet}
use Rattle.zs_world.specs.World.{World}
use Rattle.zs_model.specs.Subscribers.{is_sub}
use Rattle.zs_model.specs.Publishers.{is_pub}
use Rattle.zs_model.specs.Queriers.{is_querier}
use Rattle.zs_query.specs.Gets.{get_at}
use Rattle.zs_query.specs.GetTable.{Asking}
use Rattle.zs_standing.proofs.Steps.{is_here, live_told}
use Rattle.std.specs.Prelude.{◌==◌}
use Rattle.std.specs.List.{list_any}
use Rattle.zs_tables.specs.Types.{LivelinessSub}
use Rattle.zs_tables.specs.LivelinessGets.{is_asking}
use Rattle.std.specs.Prelude.{map}
use Rattle.zs_tables.specs.declared.listener.Listener.{Listener as a_listener}
use Rattle.zs_model.specs.Listeners.{is_listener}
use Rattle.zs_entity_tables.proofs.Counted.{any_row}
use Rattle.zs_core.proofs.readings.is_live.Goals as goal

pub returns-in-Subscriber : goal.returns-in-Subscriber
returns-in-Subscriber c =
    let rows : c.world.inside.tables.rows ≡ c.args.world.now.entities.subs = ap (λ (w : World). w.entities.subs) c.world.view_is in
    live_told c.args.world.now c.args.kind c.args.id c.has.result
    (c.has.ensures ∙ ap (is_sub c.args.id) rows ∙ sym (ap (λ (kind : Kind). is_here kind c.args.id c.args.world.now) c.in-Subscriber.is))

pub returns-in-Publisher : goal.returns-in-Publisher
returns-in-Publisher c =
    let rows : c.world.inside.publishers ≡ c.args.world.now.entities.pubs = ap (λ (w : World). w.entities.pubs) c.world.view_is in
    live_told c.args.world.now c.args.kind c.args.id c.has-in-Publisher.result
    (c.has-in-Publisher.ensures ∙ ap (is_pub c.args.id) rows ∙ sym (ap (λ (kind : Kind). is_here kind c.args.id c.args.world.now) c.in-Publisher.is))

pub returns-in-Queryable : goal.returns-in-Queryable
returns-in-Queryable c =
    live_told c.args.world.now c.args.kind c.args.id c.has_queryable.result
    (c.has_queryable.ensures ∙ sym (ap (λ (kind : Kind). is_here kind c.args.id c.args.world.now) c.in-Queryable.is))

pub returns-in-Querier : goal.returns-in-Querier
returns-in-Querier c =
    let rows : c.world.inside.queriers ≡ c.args.world.now.entities.queriers = ap (λ (w : World). w.entities.queriers) c.world.view_is in
    live_told c.args.world.now c.args.kind c.args.id c.has-in-Querier.result
    (c.has-in-Querier.ensures ∙ ap (is_querier c.args.id) rows ∙ sym (ap (λ (kind : Kind). is_here kind c.args.id c.args.world.now) c.in-Querier.is))

pub returns-in-Get : goal.returns-in-Get
returns-in-Get c =
    let gets : c.gets.result.now ≡ c.args.world.now.asking.gets = c.gets.ensures ∙ ap (λ (w : World). w.asking.gets) c.world.view_is in
    live_told c.args.world.now c.args.kind c.args.id c.is_open.result
    (c.is_open.ensures ∙ ap (λ gs. is_some (get_at c.args.id gs)) gets ∙ sym (ap (λ (kind : Kind). is_here kind c.args.id c.args.world.now) c.in-Get.is))

pub returns-in-Token : goal.returns-in-Token
returns-in-Token c =
    let tokens : c.world.inside.liveliness.tokens ≡ c.args.world.now.liveliness.tokens = ap (λ (w : World). w.liveliness.tokens) c.world.view_is in
    live_told c.args.world.now c.args.kind c.args.id c.has_token.result
    (c.has_token.ensures ∙ ap (λ (ids : List ℕ). list_any (λ other. other == c.args.id) ids) tokens ∙ sym (ap (λ (kind : Kind). is_here kind c.args.id c.args.world.now) c.in-Token.is))

pub returns-in-LivelinessSubscriber : goal.returns-in-LivelinessSubscriber
returns-in-LivelinessSubscriber c =
    let subs : c.world.inside.liveliness.subs ≡ c.args.world.now.liveliness.subs = ap (λ (w : World). w.liveliness.subs) c.world.view_is in
    live_told c.args.world.now c.args.kind c.args.id c.has-in-LivelinessSubscriber.result
    (c.has-in-LivelinessSubscriber.ensures ∙ ap (λ (rows : List LivelinessSub). list_any (λ row. row.id == c.args.id) rows) (c.subs.ensures ∙ subs)
    ∙ sym (ap (λ (kind : Kind). is_here kind c.args.id c.args.world.now) c.in-LivelinessSubscriber.is))

pub returns-in-LivelinessGet : goal.returns-in-LivelinessGet
returns-in-LivelinessGet c =
    let gets : c.gets-in-LivelinessGet.result.now ≡ c.args.world.now.liveliness.gets = c.gets-in-LivelinessGet.ensures ∙ ap (λ (w : World). w.liveliness.gets) c.world.view_is in
    live_told c.args.world.now c.args.kind c.args.id c.is_open-in-LivelinessGet.result
    (c.is_open-in-LivelinessGet.ensures ∙ ap (is_asking c.args.id) gets ∙ sym (ap (λ (kind : Kind). is_here kind c.args.id c.args.world.now) c.in-LivelinessGet.is))

pub returns-in-Listener : goal.returns-in-Listener
returns-in-Listener c =
    let listeners : map (λ (l : a_listener). l.row) c.world.inside.matching.listeners ≡ c.args.world.now.matching.listeners = ap (λ (w : World). w.matching.listeners) c.world.view_is in
    live_told c.args.world.now c.args.kind c.args.id c.has-in-Listener.result
    (c.has-in-Listener.ensures ∙ ap (λ (ls : List a_listener). list_any (λ l. l.row.id == c.args.id) ls) c.listeners.ensures
    ∙ sym (any_row c.args.id c.world.inside.matching.listeners) ∙ ap (is_listener c.args.id) listeners
    ∙ sym (ap (λ (kind : Kind). is_here kind c.args.id c.args.world.now) c.in-Listener.is))
