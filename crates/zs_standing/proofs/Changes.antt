-- What an accepted event says, told by its change: the one place of the proofs that asks for the kind of an event.
use Rattle.std.proofs.Common.{◌≡◌, false, Some, None, refl, sym}
use Rattle.std.specs.Prelude.{◌==◌}
use Rattle.zs_keys.specs.Key.{undeclared}
use Rattle.zs_subscriptions.specs.Numbers.{key_at}
use Rattle.zs_events.specs.declared.event.Event.{Event}
use Rattle.zs_events.specs.declared.event.Event.TheVariants.{Key, UndeclareKey, Sub, Pub, Queryable, Querier, Undeclare, Background, Net, Get, QuerierGet, Listen, CancelToken, Reply as reply_event, Share, Finish, Token, Lsub, LivelinessGet}
use Rattle.zs_events.specs.declared.entity_kind.EntityKind.TheVariants.{Sub as sub_kind}
use Rattle.zs_events.specs.declared.entity_kind.BackgroundKind.TheVariants.{Sub as background_sub}
use Rattle.zs_events.specs.declared.key_arg.KeyArg.TheVariants.{Number, Declared}
use Rattle.zs_wire.specs.declared.message.Message.TheVariants.{DeclareKeyExpr, Request as request_message, Response as response_message, DeclareToken as token_message, DeclareFinal, DeclareSubscriber, DeclareQueryable}
use Rattle.zs_world.specs.declared.change.EntityRow.TheVariants.{Sub as new_sub, Pub as new_pub, Queryable as new_queryable, Querier as new_querier, Lsub as new_lsub}
use Rattle.zs_world.specs.World.{World}
use Rattle.zs_query.specs.Unfinished.{value_at, finished}
use Rattle.zs_events.specs.Kinds.{response_key, is_all_of, row_of}
use Rattle.zs_events.specs.Kinds.{parent_kind_of}
use Rattle.zs_model.specs.Listeners.{listening}
use Rattle.zs_model.specs.Publishers.{pub_on}
use Rattle.zs_model.specs.Queriers.{querier_on}
use Rattle.zs_standing.proofs.Watching.{or_false}
use Rattle.zs_world.specs.Keys.{key_of, wire_of, text_of}
use Rattle.zs_world.specs.Changes.{change_for}
use Rattle.zs_world.specs.Decisions.{open_cause, text_for, sight}
use Rattle.zs_standing.proofs.Decisions.{entry_for}
use Rattle.zs_standing.proofs.Saying.{IsMade, passed}
use Rattle.zs_standing.proofs.Said.{said_of, all_said}
use Rattle.zs_standing.proofs.DeclaredMade.{key_made, back_made, declared_back_made, entity_made, tell_made}
use Rattle.zs_standing.proofs.AskedMade.{get_made, querier_get_made, request_made}
use Rattle.zs_standing.proofs.AnsweredMade.{ended_is, ended_next, reply_made, response_made}
use Rattle.zs_standing.proofs.ToldMade.{tokens_made, told_made, listen_made, remote_subscriber_made, remote_queryable_made}

-- what an open session makes of an event that it accepts
pub made : (w : World) (e : Event) → w.closed ≡ false → open_cause w e ≡ None → IsMade w (entry_for w e) (change_for w e)
made w (Key key) o c = key_made w key (key_of w key) o (passed _ _ c)
made w (UndeclareKey (Number number suffix)) o c = back_made w number suffix (text_for w (UndeclareKey (Number number suffix))) (key_at number w.keys.local_resources) refl o (passed _ _ c)
made w (UndeclareKey (Declared text number prefix_len)) o c =
    declared_back_made w text number prefix_len (is_all_of text prefix_len) refl (key_at number w.keys.local_resources) refl o (passed _ _ c)
made w (Sub origin key to) o c =
    let p = passed (row_of (Sub origin key to)) (sight w (Sub origin key to)) c in
    entity_made w (Sub origin key to) key (λ text. new_sub (record { id = w.counters.entity; origin = origin; key = undeclared text })) (key_of w key) o p.found p.left tt (λ t. refl) (λ t. refl)
made w (Lsub history key) o c =
    let p = passed (row_of (Lsub history key)) (sight w (Lsub history key)) c in
    entity_made w (Lsub history key) key (λ text. new_lsub (record { id = w.counters.entity; history = history; key = undeclared text })) (key_of w key) o p.found p.left tt (λ t. refl) (λ t. refl)
made w (LivelinessGet key timeout token to) o c = tokens_made w key timeout token to (key_of w key) o (passed _ _ c)
made w (Net (token_message id wire interest)) o c = told_made w id wire interest (wire_of w wire) o
made w (Net (DeclareFinal (Some number))) o c =
    let e = Net (DeclareFinal (Some number)) in
    all_said o tt tt tt tt (λ i. record (said_of w (entry_for w e)) { stops = λ g. or_false (g.number == number) i })
made w (Net (DeclareKeyExpr number wire)) o c = tell_made w number wire (wire_of w wire) o (passed _ _ c)
made w (Pub key settings) o c =
    let p = passed (row_of (Pub key settings)) (sight w (Pub key settings)) c in
    entity_made w (Pub key settings) key (λ text. new_pub (pub_on w.counters.entity key settings text)) (key_of w key) o p.found p.left tt (λ t. refl) (λ t. refl)
made w (Queryable origin complete key) o c =
    let p = passed (row_of (Queryable origin complete key)) (sight w (Queryable origin complete key)) c in
    entity_made w (Queryable origin complete key) key (λ text. new_queryable (record { id = w.counters.entity; origin = origin; complete = complete; key = undeclared text })) (key_of w key) o p.found p.left tt (λ t. refl) (λ t. refl)
made w (Querier key settings) o c =
    let p = passed (row_of (Querier key settings)) (sight w (Querier key settings)) c in
    entity_made w (Querier key settings) key (λ text. new_querier (querier_on w.counters.entity key settings text)) (key_of w key) o p.found p.left tt (λ t. refl) (λ t. refl)
made w (QuerierGet id inquiry to) o c = querier_get_made w id inquiry to o (passed _ _ c)
made w (Token key) o c = all_said {w = w} {x = entry_for w (Token key)} {c = change_for w (Token key)} o (refl, (passed (row_of (Token key)) (sight w (Token key)) c).left) tt refl tt refl
made w (Listen parent id) o c = listen_made w parent id (listening w.entities.pubs w.entities.queriers w.counters.entity (parent_kind_of parent) id) refl o (passed _ _ c)
made w (Net (DeclareSubscriber id wire)) o c = remote_subscriber_made w id wire (wire_of w wire) o
made w (Net (DeclareQueryable id complete wire)) o c = remote_queryable_made w id complete wire (wire_of w wire) o
made w (Background background_sub id) o c = all_said {w = w} {x = entry_for w (Background background_sub id)} {c = change_for w (Background background_sub id)} o tt tt tt tt refl
made w (Get key settings inquiry to) o c = get_made w key settings inquiry to (key_of w key) o (passed _ _ c)
made w (reply_event value key update quality) o c = reply_made w value key update quality (key_of w key) o
made w (Share value) o c = all_said {w = w} {x = entry_for w (Share value)} {c = change_for w (Share value)} o (passed (row_of (Share value)) (sight w (Share value)) c).left tt tt tt refl
made w (Finish value) o c =
    let f = finished (value_at value w.handing.values) w.handing.values in
    all_said o tt tt tt tt (λ i. record (said_of w (entry_for w (Finish value))) { asking = sym (ended_is f w.asking) i; next_query = sym (ended_next f w.asking) i })
made w (Net (request_message request)) o c = request_made w request (wire_of w request.wire) o (passed (row_of (Net (request_message request))) (sight w (Net (request_message request))) c).left
made w (Net (response_message response)) o c = response_made w response (text_of w (response_key response.answered response.wire)) response.answered refl o
made w (Undeclare sub_kind id) o c = all_said {w = w} {x = entry_for w (Undeclare sub_kind id)} {c = change_for w (Undeclare sub_kind id)} o tt tt tt tt refl
made w CancelToken o c = all_said {w = w} {x = entry_for w CancelToken} {c = change_for w CancelToken} o (passed (row_of CancelToken) (sight w CancelToken) c).left tt tt tt refl
made w e o c = all_said {w = w} {x = entry_for w e} {c = change_for w e} o tt tt tt tt refl
