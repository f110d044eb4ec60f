-- What a session makes of an event, by the tables: its turn and what it changes.
use Rattle.std.specs.Prelude.{ℕ, Bool, true, false, not, ◌&&◌, ◌||◌, ◌==◌, is_some, unwrap_or, map, filter, List, [], ◌++◌, Option, Some, None, option_map, if◌then◌else◌, ◌∷◌}
use Rattle.zs_events.specs.declared.event.Event.{Event}
use Rattle.zs_events.specs.declared.turn.Effect.{Effect}
use Rattle.zs_events.specs.declared.turn.Kind.{Kind}
use Rattle.zs_events.specs.declared.turn.Kind.TheVariants.{Subscriber, Publisher, Queryable, Querier, Token, LivelinessSubscriber, Listener}
use Rattle.zs_events.specs.declared.turn.Refusal.{Refusal}
use Rattle.zs_events.specs.declared.turn.Refusal.TheVariants.{SessionClosedError, NotFound, UnknownScope, BadKeyExpr, QueryCancelled, ReplyDisjoint, NotDeclared, IdsExhausted, Ignored}
use Rattle.zs_world.specs.declared.change.Change.{Change}
use Rattle.zs_world.specs.declared.change.Change.TheVariants.{Nothing, OfGets, OfValues, OfLiveliness}
use Rattle.zs_world.specs.declared.change.GetChange.TheVariants.{Ask, Take, Final}
use Rattle.zs_world.specs.declared.change.ValueChange.TheVariants.{AskHere, GiveBack}
pub use Rattle.zs_world.specs.declared.change.Decision.{Decision}
use Rattle.zs_subscriptions.specs.Numbers.{key_at, number_at}
use Rattle.zs_wire.specs.declared.body.Body.{Body}
use Rattle.zs_wire.specs.declared.body.Value.{Value}
use Rattle.zs_wire.specs.declared.response.Answered.TheVariants.{Reply, Err as Error}
use Rattle.zs_wire.specs.declared.response.Response.{Response}
use Rattle.zs_wire.specs.declared.wire_expr.WireExpr.{WireExpr}
use Rattle.zs_model.specs.Settings.{last_entity, last_query, last_key}
use Rattle.zs_events.specs.Turn.{answered}
use Rattle.zs_events.specs.Kinds.{Speaker, Application, Anytime, Network, NamedKey, OwnKey, PublisherKey, WireKey, ToGets, asking_cancellation_token, cancellation_token_named, Draws, NoNumber, EntityNumber, ValueNumber, CancellationNumber, KeyNumber, StatusOf, Named, Question, Publishes, OwnContent, ByPublisher, Row, AnswersBy, AnswersError, said_by, publisher_named, row_of, QueryNumber, Answers, told_on, TellsToken}
use Rattle.zs_events.specs.declared.publication.Content.{Content}
use Rattle.zs_events.specs.declared.publication.ReplyQuality.{ReplyQuality}
use Rattle.zs_events.specs.declared.update.Update.{Update}
use Rattle.zs_model.specs.Seen.{Sight, is_not_found, is_unknown, is_bad_key}
use Rattle.zs_model.specs.Counters.{is_spent}
use Rattle.zs_model.specs.Values.{met_by, met_by_get, get_request, last_value, lacks_values}
use Rattle.zs_model.specs.Answers.{is_owed, is_disjoint_from, is_disjoint, is_refused_on, local_reply}
use Rattle.zs_entity_tables.specs.DeclaredKeys.{holders_of}
use Rattle.std.specs.List.{list_any}
use Rattle.zs_model.specs.Subscribers.{is_sub}
use Rattle.zs_model.specs.Publishers.{is_pub, pub_at, resolved}
use Rattle.zs_model.specs.Queriers.{is_querier, querier_at, querier_declaration, to_gets_by}
use Rattle.zs_model.specs.Cancelling.{last_cancellation_token, is_drawn, is_any, is_among}
use Rattle.zs_model.specs.Tokens.{is_spared, is_pointless}
use Rattle.zs_model.specs.Sends.{OwnKeys, wire_form, declaration_of, prefix_declaration, publication_sends}
use Rattle.zs_sample.specs.Reply.{Replied}
use Rattle.zs_query.specs.declared.open_get.OpenGet.{OpenGet}
use Rattle.zs_query.specs.Gets.{get_at, peek_at, final_outcome}
use Rattle.zs_query.specs.declared.side.Side.TheVariants.{Network as network_side}
use Rattle.zs_model.specs.Gets.{is_unmet, is_unwanted, is_idle_response, is_idle}
use Rattle.zs_model.specs.GetEffects.{hand_query, request_sends, unmet_effects, ask_effects, reply_effects, response_effects, final_effects}
use Rattle.zs_model.specs.Effects.{Known, answering, publication_on, hands_for, effects_on}
use Rattle.zs_model.specs.Groups.{company_at}
use Rattle.zs_world.specs.World.{World, present_at}
use Rattle.zs_tables.specs.Matching.{status}
use Rattle.zs_model.specs.Listeners.{listening, is_listener, listener_ends}
use Rattle.zs_model.specs.Matching.{as_number, ends_unknown, turned}
use Rattle.zs_world.specs.Changes.{with_change}
use Rattle.zs_world.specs.Keys.{has_claim, key_of, wire_of, text_of}
use Rattle.zs_world.specs.Changes.{response_change, ask_change, replied_change, answer_change, change_for}
use Rattle.zs_world.specs.LivelinessChanges.{remote_token_change}
use Rattle.zs_model.specs.LivelinessEffects.{Watch, watch_effects, token_hands}
use Rattle.zs_world.specs.declared.change.LivelinessChange.TheVariants.{ForgetToken}
use Rattle.zs_wire.specs.declared.sample_kind.SampleKind.TheVariants.{Delete as delete_kind}
use Rattle.zs_keys.specs.Text.{is_canonical}
use Rattle.zs_events.specs.declared.key_arg.KeyArg.{KeyArg}
use Rattle.zs_query.specs.Types.{QueryValue, RequestRow, Finished, Unknown, MoreLeft, Last}
use Rattle.zs_query.specs.Unfinished.{value_at, values_from}
use Rattle.zs_model.specs.Questions.{row_asked, row_waiting}
use Rattle.zs_model.specs.ValueEffects.{reply_for_value, answer_effects, answer_error_effects, finish_effects}

-- the text of the event's key, if it has one
abbrev pub text_for : World → Event → Option (List ℕ)
text_for w e = text_of w (row_of e).key

-- whether there is something of that kind and number
abbrev pub is_there : Kind → ℕ → World → Bool
is_there Subscriber id w = is_sub id w.entities.subs
is_there Publisher id w = is_pub id w.entities.pubs
is_there Queryable id w = list_any (λ row. row.id == id) w.entities.queryables
is_there Querier id w = is_querier id w.entities.queriers
is_there Token id w = list_any (λ other. other == id) w.liveliness.tokens
is_there LivelinessSubscriber id w = list_any (λ row. row.id == id) w.liveliness.subs
is_there Listener id w = is_listener id w.matching.listeners
is_there kind id w = false

-- the numbers of a kind that were left to themselves
abbrev pub left_of : Kind → World → List ℕ
left_of Subscriber w = w.entities.left_subs
left_of Queryable w = w.entities.left_queryables
left_of LivelinessSubscriber w = w.liveliness.left
left_of Listener w = w.matching.left
left_of kind w = []

-- whether it was left to itself
abbrev pub is_left : Kind → ℕ → World → Bool
is_left kind id w = list_any (λ other. other == id) (left_of kind w)

-- whether what an event names can be named, if it names anything
abbrev pub finds : World → Option Named → Bool
finds w None = true
finds w (Some named) = is_there named.kind named.id w && not (is_left named.kind named.id w)

-- whether anyone matches what has a kind and number, as a number
abbrev pub status_at : World → Kind → ℕ → ℕ
status_at w kind id = as_number (list_any (status (present_at w)) (listening w.entities.pubs w.entities.queriers 0 kind id))

-- whether the counter of what is drawn has run out
abbrev pub has_run_out : World → Draws → Option (List ℕ) → Bool
has_run_out w NoNumber text = false
has_run_out w EntityNumber text = is_spent last_entity w.counters.entity
has_run_out w QueryNumber text = is_spent last_query w.asking.next
has_run_out w ValueNumber text = is_spent last_value w.handing.next
has_run_out w CancellationNumber text = is_spent last_cancellation_token w.cancelling.next
has_run_out w (StatusOf kind id) text = false
has_run_out w KeyNumber None = false
has_run_out w KeyNumber (Some text) = not (is_some (number_at text w.keys.local_resources)) && is_spent last_key w.counters.key

-- the number that is answered, if one is drawn or a held text has one
abbrev pub number_of : World → Draws → Option (List ℕ) → Option ℕ
number_of w NoNumber text = None
number_of w EntityNumber text = Some w.counters.entity
number_of w QueryNumber text = Some w.asking.next
number_of w ValueNumber text = Some w.handing.next
number_of w CancellationNumber text = Some w.cancelling.next
number_of w (StatusOf kind id) text = Some (status_at w kind id)
number_of w KeyNumber None = None
number_of w KeyNumber (Some text) = Some (unwrap_or (number_at text w.keys.local_resources) w.counters.key)

abbrev pub number_for : World → Event → Option ℕ
number_for w e = number_of w (row_of e).draws (text_for w e)

-- what an event is to gets
abbrev pub to_gets_at : World → Event → ToGets
to_gets_at w e = to_gets_by w.entities.queriers (row_of e).to_gets

-- what the tables say of an event
abbrev pub sight : World → Event → Sight
sight w e = record {
  text = text_for w e;
  lives = finds w (row_of e).names;
  claimed = has_claim w (row_of e).claims (text_for w e);
  owed = is_owed w.handing.values (row_of e).to_values;
  drawn = is_drawn w.cancelling.next (cancellation_token_named (row_of e).to_gets (row_of e).to_liveliness);
  cancelled = is_any (is_among w.cancelling.taken) (asking_cancellation_token (row_of e).to_gets (row_of e).to_liveliness);
  disjoint = is_disjoint w.handing.values (row_of e).to_values (text_for w e);
  lacks =
      lacks_values w.handing.next (met_by w.entities.queryables (to_gets_at w e) (row_of e).to_values (text_for w e))
      || has_run_out w (row_of e).draws (text_for w e);
  idle = is_pointless (row_of e).to_liveliness || ends_unknown w.matching.remote_entities.subs w.matching.remote_entities.queryables (row_of e).to_matching || is_idle w.asking.gets (row_of e).to_gets (text_for w e);
  spared = is_spared w.liveliness.remote_tokens (row_of e).to_liveliness;
}

-- the refusal where the test holds, else the next one
abbrev pub refused_if : Bool → Refusal → Option Refusal → Option Refusal
refused_if true refusal next = Some refusal
refused_if false refusal next = next

-- why an open session refuses an event, by its row and what is looked up for it
abbrev pub first_cause : Row → Sight → Option Refusal
first_cause row seen =
    refused_if (is_not_found row seen) NotFound
    (refused_if (is_unknown row seen) UnknownScope
    (refused_if (is_bad_key seen) BadKeyExpr
    (refused_if seen.cancelled QueryCancelled
    (refused_if seen.disjoint ReplyDisjoint
    (refused_if row.gives_part NotDeclared (refused_if seen.lacks IdsExhausted (refused_if seen.idle Ignored None)))))))

-- why a closed session refuses what is said so
abbrev pub refused_closed : Speaker → Option Refusal
refused_closed Application = Some SessionClosedError
refused_closed Anytime = None
refused_closed Network = Some Ignored

abbrev pub closed_cause : Event → Option Refusal
closed_cause e = refused_closed (row_of e).says

abbrev pub open_cause : World → Event → Option Refusal
open_cause w e = first_cause (row_of e) (sight w e)

-- why an event is refused, if it is
abbrev pub cause : World → Event → Option Refusal
cause w e = if w.closed then closed_cause e else open_cause w e

-- what the tables say of declared keys
abbrev pub own_keys_at : World → OwnKeys
own_keys_at w = record {
  tag = w.settings.tag;
  text_of = λ n. option_map (λ key. key.text) (key_at n w.keys.local_resources);
  count_of = λ n. holders_of n w.keys.holders;
  number_of = λ text. number_at text w.keys.local_resources;
  published = λ id. prefix_declaration w.settings.tag (pub_at id w.entities.pubs);
  queried = λ id. querier_declaration w.settings.tag (querier_at id w.entities.queriers);
}

-- what is known of liveliness, by the tables
abbrev pub watch_at : World → Watch
watch_at w = record { subs = w.liveliness.subs; remote_tokens = w.liveliness.remote_tokens; gets = w.liveliness.gets }

abbrev pub known_at : World → Known
known_at w = record {
  keys = own_keys_at w;
  subs = w.entities.subs;
  pubs = w.entities.pubs;
  queryables = w.entities.queryables;
  queriers = w.entities.queriers;
  company = λ kind. company_at w.settings w.groups kind;
  timeout = w.settings.default_timeout;
  gets = w.asking.gets;
  watch = watch_at w;
  zid = w.settings.zid;
  handing = w.handing;
}

-- what an accepted event brings about
abbrev pub effects_of : World → Event → List Effect
effects_of w e = effects_on (known_at w) (number_for w e) (text_for w e) e

-- why a key is refused, if it is
abbrev pub key_cause : World → NamedKey → Option Refusal
key_cause w key =
    first_cause (record (said_by Network) { key = key }) (record { text = text_of w key; lives = true; claimed = true; owed = true; drawn = true; cancelled = false; disjoint = false; lacks = false; idle = false; spared = false })

-- a refused event changes nothing
abbrev pub unless_refused : Option Refusal → Change → Change
unless_refused (Some refusal) change = Nothing
unless_refused None change = change

-- a turn, and the change of an event that is not refused
abbrev pub decision_of : Option Refusal → Option ℕ → List Effect → Change → Decision
decision_of refusal number fx change = record { turn = answered refusal number fx; change = unless_refused refusal change }

-- what an open session makes of an event
abbrev pub open_decision : World → Event → Decision
open_decision w e = decision_of (open_cause w e) (number_for w e) (effects_of w e) (change_for w e)

-- what a session makes of an event
abbrev pub decision : World → Event → Decision
decision w e = if w.closed then decision_of (closed_cause e) None [] Nothing else open_decision w e

-- what listeners make of a change, by the tables before it and behind it: those that live no longer are called no more, and each that lives
-- hears whether anyone matches, unless it was so before; a new one counts from nobody
abbrev pub listener_effects_at : World → World → List Effect
listener_effects_at w v =
    listener_ends (filter (λ row. not (is_listener row.id v.matching.listeners)) w.matching.listeners)
    ++ turned (λ row. is_listener row.id w.matching.listeners && status (present_at w) row) (status (present_at v)) v.matching.listeners

-- a decision with that behind all else
abbrev pub with_listeners : World → Decision → Decision
with_listeners w d = record d { turn = record d.turn { effects = d.turn.effects ++ listener_effects_at w (with_change d.change w) } }

-- what a publication on a key brings about
abbrev pub publication_effects : World → NamedKey → Option (List ℕ) → Content → List Effect
publication_effects w key text c =
    publication_sends (own_keys_at w) key text (OwnContent c) ++ hands_for w.entities.subs (publication_on text (OwnContent c)) ++ []

-- what an open session makes of a publication on a key
abbrev pub publication_decision : World → NamedKey → Content → Decision
publication_decision w key c = decision_of (key_cause w key) None (publication_effects w key (text_of w key) c) Nothing

-- what an open session makes of what a publisher is told to publish
abbrev pub published_effects : World → ℕ → Option (List ℕ) → Publishes → List Effect
published_effects w id text publishes =
    publication_sends (own_keys_at w) (PublisherKey id) text publishes ++ hands_for w.entities.subs (publication_on text publishes) ++ []

abbrev pub published_decision : World → ℕ → Update → Decision
published_decision w id c =
    decision_of
    (first_cause (record (said_by Application) { key = PublisherKey id; names = publisher_named id })
    (record { text = text_of w (PublisherKey id); lives = finds w (publisher_named id); claimed = true; owed = true; drawn = true; cancelled = false; disjoint = false; lacks = false; idle = false; spared = false }))
    None (published_effects w id (text_of w (PublisherKey id)) (resolved w.entities.pubs (ByPublisher id c))) Nothing

-- what an open session makes of a reply that a queryable's request takes, on this text
abbrev pub replied_by : World → KeyArg → ℕ → RequestRow → ReplyQuality → Body → List ℕ → Decision
replied_by w key queryable row quality body text =
    decision_of None None (reply_for_value (answering (known_at w)) (OwnKey key) queryable row quality body text)
    (replied_change row.local row.rid (local_reply w.settings.zid queryable row quality body text))

-- of one on a key
abbrev pub answered_by : World → KeyArg → ℕ → RequestRow → ReplyQuality → Body → Option (List ℕ) → Decision
answered_by w key queryable row quality body None = decision_of (Some NotFound) None [] Nothing
answered_by w key queryable row quality body (Some text) =
    if not (is_canonical text) then decision_of (Some BadKeyExpr) None [] Nothing
    else if is_refused_on text row then decision_of (Some ReplyDisjoint) None [] Nothing
    else replied_by w key queryable row quality body text

-- of one to a query value
abbrev pub answer_row : ℕ → KeyArg → ReplyQuality → Body → Row
answer_row value key quality body = record (said_by Anytime) { key = OwnKey key; to_values = AnswersBy value body quality }

abbrev pub answer_on : World → ℕ → KeyArg → ReplyQuality → Body → Option QueryValue → Option (List ℕ) → Decision
answer_on w value key quality body o text =
    decision_of
    (first_cause (answer_row value key quality body)
    (record { text = text; lives = true; claimed = true; owed = is_some o; drawn = true; cancelled = false; disjoint = is_disjoint_from o text; lacks = false; idle = false; spared = false }))
    None (answer_effects (answering (known_at w)) (OwnKey key) o quality body text) (answer_change w.settings.zid quality body o text)

abbrev pub answer_decision : World → ℕ → KeyArg → ReplyQuality → Body → Decision
answer_decision w value key quality body = answer_on w value key quality body (value_at value w.handing.values) (key_of w key)

-- and of an error
abbrev pub error_answered : World → ℕ → Value → Option QueryValue → Decision
error_answered w value error o =
    decision_of
    (first_cause (record (said_by Anytime) { to_values = AnswersError value error })
    (record { text = None; lives = true; claimed = true; owed = is_some o; drawn = true; cancelled = false; disjoint = false; lacks = false; idle = false; spared = false }))
    None (answer_error_effects (answering (known_at w)) o error) Nothing

abbrev pub error_answer_decision : World → ℕ → Value → Decision
error_answer_decision w value error = error_answered w value error (value_at value w.handing.values)

-- what it makes of a value that is given back, by what that comes to
abbrev pub finished_decision : World → ℕ → Finished → Decision
finished_decision w value Unknown = decision_of (Some NotFound) None [] Nothing
finished_decision w value MoreLeft = decision_of None None [] (OfValues (GiveBack value))
finished_decision w value (Last row) = decision_of None None (finish_effects w.asking.gets (Last row)) (OfValues (GiveBack value))

-- the form of a named key in a message
abbrev pub named_wire : World → List ℕ → NamedKey → WireExpr
named_wire w text key = wire_form (own_keys_at w) text (declaration_of (own_keys_at w) text key)

-- what it makes of a get on this text, which meets these queryables
abbrev pub asked_decision : World → NamedKey → Question → List ℕ → List ℕ → Decision
asked_decision w key q text met =
    decision_of None (Some w.asking.next)
    (ask_effects w.settings.default_timeout (named_wire w text key) w.asking.next q
    (values_from w.handing.next w.handing.handed (get_request w.asking.next text q) met))
    (ask_change (row_waiting w.settings.default_timeout w.asking.moment w.asking.next text q met) (get_request w.asking.next text q) met)

-- the same of one that meets nobody here, and of one that meets somebody
abbrev pub unmet_decision : World → NamedKey → Question → List ℕ → Decision
unmet_decision w key q text =
    decision_of None (Some w.asking.next)
    (unmet_effects w.settings.default_timeout (named_wire w text key) w.asking.next q)
    (OfGets (Ask (row_waiting w.settings.default_timeout w.asking.moment w.asking.next text q [])))

abbrev pub met_decision : World → NamedKey → Question → List ℕ → List ℕ → Decision
met_decision w key q text met =
    decision_of None (Some w.asking.next)
    (request_sends w.settings.default_timeout (named_wire w text key) w.asking.next q
    ++ map hand_query (values_from w.handing.next w.handing.handed (get_request w.asking.next text q) met))
    (OfValues (AskHere
    (record (row_asked w.settings.default_timeout w.asking.moment w.asking.next text q) { local_wanted = true })
    (get_request w.asking.next text q) met))

-- what it makes of a get on this text, whose token was drawn, if it has one
abbrev pub ask_decision : World → NamedKey → Question → List ℕ → Decision
ask_decision w key q text =
    if is_any (is_among w.cancelling.taken) q.inquiry.cancellation_token then decision_of (Some QueryCancelled) None [] Nothing
    else if lacks_values w.handing.next (met_by_get w.entities.queryables q text) || is_spent last_query w.asking.next
    then decision_of (Some IdsExhausted) None [] Nothing
    else asked_decision w key q text (met_by_get w.entities.queryables q text)

-- what gets make of a reply to one of them
abbrev pub heard_reply : List OpenGet → ℕ → Replied → Decision
heard_reply gets number reply =
    decision_of (refused_if (is_unmet (peek_at (get_at number gets) reply)) Ignored None) None
    (reply_effects (peek_at (get_at number gets) reply) number reply) (OfGets (Take number reply))

-- and of the network's final for one
abbrev pub heard_final : List OpenGet → ℕ → Decision
heard_final gets number =
    decision_of (refused_if (is_unwanted (final_outcome network_side (get_at number gets))) Ignored None) None
    (final_effects number (final_outcome network_side (get_at number gets))) (OfGets (Final number))

-- and what an open session makes of a response with a value, and with an error
abbrev pub reply_row : Response → Body → Row
reply_row response body = record (told_on response.wire) { to_gets = Answers response; texts = body.encoding ∷ [] }

abbrev pub reply_decision_on : World → Response → Body → Option (List ℕ) → Decision
reply_decision_on w response body text =
    decision_of
    (first_cause (reply_row response body)
    (record { text = text; lives = true; claimed = true; owed = true; drawn = true; cancelled = false; disjoint = false; lacks = false; idle = is_idle_response w.asking.gets response (Reply body) text; spared = false }))
    None (response_effects w.asking.gets response (Reply body) text) (response_change response (Reply body) text)

abbrev pub reply_decision : World → Response → Body → Decision
reply_decision w response body = reply_decision_on w response body (wire_of w response.wire)

abbrev pub error_decision : World → Response → Value → Decision
error_decision w response value =
    decision_of (refused_if (is_idle_response w.asking.gets response (Error value) None) Ignored None) None
    (response_effects w.asking.gets response (Error value) None) Nothing

-- what an open session makes of a token that the network tells on a key
abbrev pub remote_token_decision : World → ℕ → Option ℕ → List ℕ → Decision
remote_token_decision w id interest text =
    decision_of None None (watch_effects (watch_at w) None (Some text) (TellsToken id interest) []) (remote_token_change w.liveliness.gets id interest (Some text))

-- and of one that it ends, whose key has this text, if it has one
abbrev pub ended_decision : World → ℕ → Option ℕ → Option (List ℕ) → Decision
ended_decision w id interest text = decision_of None None (token_hands delete_kind (is_some interest) text w.liveliness.subs) (OfLiveliness (ForgetToken id))

-- one of an unknown number that ends on a key which is named
abbrev pub ended_on : World → ℕ → WireExpr → Option ℕ → Decision
ended_on w id wire interest =
    decision_of (key_cause w (WireKey wire)) None (token_hands delete_kind (is_some interest) (wire_of w wire) w.liveliness.subs) (OfLiveliness (ForgetToken id))
