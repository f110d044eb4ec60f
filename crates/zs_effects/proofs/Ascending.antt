-- What an event brings about ascends in each place.
use Rattle.std.proofs.Common.{◌<◌, ℕ, ◌+◌, List, [], ◌∷◌, ◌++◌, Bool, true, false, Option, Some, None, refl, arith, map}
use Rattle.std.specs.Prelude.{◌==◌, ◌&&◌, not, filter, is_some, if◌then◌else◌}
use Rattle.std.specs.List.{AllByRecursion, find, flat_map}
use Rattle.zs_sample.specs.Reply.{Replied}
use Rattle.zs_wire.specs.declared.body.Body.{Body}
use Rattle.zs_wire.specs.declared.body.Value.{Value}
use Rattle.zs_wire.specs.declared.message.Message.{Message}
use Rattle.zs_wire.specs.declared.message.Message.TheVariants.{Push as push_message, Request as request_message, Response as response_message, ResponseFinal}
use Rattle.zs_wire.specs.declared.request.Request.{Request}
use Rattle.zs_wire.specs.declared.response.Answered.{Answered}
use Rattle.zs_wire.specs.declared.response.Answered.TheVariants.{Reply, Err as Error}
use Rattle.zs_wire.specs.declared.response.Response.{Response}
use Rattle.zs_wire.specs.declared.sample_kind.SampleKind.{SampleKind}
use Rattle.zs_wire.specs.declared.sample_kind.SampleKind.TheVariants.{Put as put_kind, Delete as delete_kind}
use Rattle.zs_wire.specs.declared.wire_expr.WireExpr.{WireExpr}
use Rattle.zs_tables.specs.Liveliness.{met_keys, hears, hearers}
use Rattle.zs_tables.specs.Queryables.{is_met, met}
use Rattle.zs_tables.specs.LivelinessGets.{is_asking, is_over, over_at, is_own, numbers_with}
use Rattle.zs_tables.specs.MatchingLaws.{differ}
use Rattle.zs_subscriptions.specs.Recipients.{has_session, has_network}
use Rattle.zs_tables.specs.declared.listener.ListenerRow.{ListenerRow}
use Rattle.zs_tables.specs.Types.{LivelinessGet as TokensGet, LivelinessSub, RemoteToken}
use Rattle.zs_tables.specs.declared.queryable.QueryableRow.{QueryableRow}
use Rattle.zs_subscriptions.specs.declared.subscriber.SubRow.{SubRow}
use Rattle.zs_query.specs.declared.open_get.OpenGet.{OpenGet}
use Rattle.zs_query.specs.declared.outcome.Outcome.{Outcome}
use Rattle.zs_query.specs.declared.outcome.Outcome.TheVariants as outcome
use Rattle.zs_query.specs.declared.outcome.Peek.{Peek}
use Rattle.zs_query.specs.declared.outcome.Peek.TheVariants as peek
use Rattle.zs_query.specs.Types.{QueryValue, Finished, Unknown, MoreLeft, Last, RequestRow}
use Rattle.zs_query.specs.declared.side.Side.TheVariants.{Local, Network}
use Rattle.zs_query.specs.Asked.{QuerierEnds, CancelledBy, is_end}
use Rattle.zs_query.specs.Gets.{get_at, peek_at, final_outcome, is_due, end_of, ends_at, timeout_error}
use Rattle.zs_query.specs.RequestTable.{Handing}
use Rattle.zs_query.specs.Unfinished.{value_at, values_from, finished}
use Rattle.zs_subscriptions.proofs.Ascending.{ascend_filter, ascend_map}
use Rattle.zs_query.proofs.Ascending.{all_append}
use Rattle.zs_subscriptions.specs.Ascending.{Ascend}
use Rattle.zs_events.specs.declared.event.Event.{Event}
use Rattle.zs_events.specs.declared.event.Event.TheVariants.{Publish, PublishBy, Undeclare, Close, Net, Get, QuerierGet, Cancel, Tick, Reply as reply_event, ReplyErr, Finish, Share}
use Rattle.zs_events.specs.declared.entity_kind.EntityKind.TheVariants.{Sub as sub_kind, Queryable as queryable_sort, Querier as querier_sort, Lsub as lsub_sort}
use Rattle.zs_events.specs.declared.publication.ReplyQuality.{ReplyQuality}
use Rattle.zs_events.specs.declared.turn.Effect.{Effect}
use Rattle.zs_events.specs.declared.turn.Effect.TheVariants.{Send, Hand, End, Matching}
use Rattle.zs_events.specs.declared.turn.HandOver.TheVariants.{Sample as sample_for}
use Rattle.zs_events.specs.declared.turn.Kind.TheVariants.{Subscriber, Queryable as queryable_kind, LivelinessSubscriber, Listener as listener_kind}
use Rattle.zs_events.specs.declared.turn.Refusal.{Refusal}
use Rattle.zs_events.specs.Turn.{answered}
use Rattle.zs_events.specs.Kinds.{NamedKey, OwnKey, QuerierKey, Question, NoGet, Asks, ToValues, NoValue, Requested, Publishes, NoContent, OwnContent, ByPublisher, ToLiveliness, NoToken, Subscribes, AsksTokens, TellsToken, EndsToken, EndsAnswers, message_row, row_of}
use Rattle.zs_model.specs.declared.publisher.PubRow.{PubRow}
use Rattle.zs_model.specs.declared.querier.QuerierRow.{QuerierRow}
use Rattle.zs_model.specs.Answers.{quality_of, local_reply, local_error, response_by}
use Rattle.zs_model.specs.Causes.{refusal_of}
use Rattle.zs_model.specs.Entry.{Entry, is_closed}
use Rattle.zs_model.specs.GetEffects.{hand_reply, hand_query, end_get, last_hands, reply_effects, response_effects, final_effects, ends_effects, ended_numbers, cut_effects, ask_effects, asked_effects, request_effects, told_effects, with_gets}
use Rattle.zs_model.specs.Gets.{sample_reply}
use Rattle.zs_model.specs.HeldKeys.{named_text}
use Rattle.zs_model.specs.Listeners.{is_listener, listener_ends}
use Rattle.zs_model.specs.Live.{live_listeners}
use Rattle.zs_model.specs.LivelinessEffects.{Watch, hand_token, hand_remote_token, hand_answer, end_asking, cancelled_ends, asking_ends, lsub_ends, token_hands, history_hands, declared_hands, answer_hands, ended_text, watch_effects}
use Rattle.zs_model.specs.Matching.{is_matched, turned, listener_effects}
use Rattle.zs_model.specs.Past.{past_of, entry_of}
use Rattle.zs_model.specs.Publications.{Publication, sample_on, allows}
use Rattle.zs_model.specs.Publishers.{resolved}
use Rattle.zs_model.specs.Queriers.{querier_at, question_of, asks_of}
use Rattle.zs_model.specs.Queryables.{queryable_ends}
use Rattle.zs_model.specs.Questions.{request_of}
use Rattle.zs_model.specs.Sends.{full_wire, wire_form, declaration_of, sends_of}
use Rattle.zs_model.specs.Subscribers.{sub_ends}
use Rattle.zs_model.specs.Tokens.{answers, is_remote_token}
use Rattle.zs_model.specs.Values.{wants_complete, met_by_get, met_by_request, get_request, network_request, drawn_by}
use Rattle.zs_model.specs.ValueEffects.{Answering, requested_effects, replied_effects, answer_effects, answer_error_effects, finish_effects}
use Rattle.zs_model.specs.Effects.{Known, known_of, answering, draws_of, entity_sends, hands_of, hands_for, publication_on, ends_of, effects_on, effects_behind}
use Rattle.zs_effects.specs.Ascending.{AreAscending, EffectsAscend}
use Rattle.zs_effects.proofs.Rising.{AreRising, IsSending, none_rising, wider, joined, one, if_one, mapped, still, last_rising, all_sent}
use Rattle.zs_effects.proofs.Rows.{listeners_below, listeners_more}
use Rattle.zs_effects.proofs.Sending.{front_sent}
use Rattle.zs_effects.proofs.Standing.{AreStanding, all_stand}

-- samples of a publication
published : (rows : List SubRow) (text : Option (List ℕ)) (p : Publishes) → Ascend (λ (row : SubRow). row.id) rows → AreRising 1 1 (hands_for rows (publication_on text p))
published rows text NoContent up = none_rising 1 1
published rows None (OwnContent c) up = none_rising 1 1
published rows (Some text) (OwnContent c) up =
    let p : Publication = record { local = c.local; destination = c.destination; sample = sample_on text c } in
    mapped 1 (λ (row : SubRow). row.id) (λ (row : SubRow). Hand (sample_for Subscriber row.id p.sample)) (record { here = λ row. refl; whose = λ row. refl; next = λ row. omega arith })
    (filter (allows p) rows) (ascend_filter (λ (row : SubRow). row.id) (allows p) rows up)
published rows None (ByPublisher id c) up = none_rising 1 1
published rows (Some text) (ByPublisher id c) up = none_rising 1 1

-- ends of entities
queryables_end : (rows : List QueryableRow) → Ascend (λ (row : QueryableRow). row.id) rows → AreRising 3 3 (queryable_ends rows)
queryables_end rows up =
    mapped 3 (λ (row : QueryableRow). row.id) (λ (row : QueryableRow). End queryable_kind row.id) (record { here = λ row. refl; whose = λ row. refl; next = λ row. omega arith }) rows up

subs_end : (rows : List SubRow) → Ascend (λ (row : SubRow). row.id) rows → AreRising 4 4 (sub_ends rows)
subs_end rows up = mapped 4 (λ (row : SubRow). row.id) (λ (row : SubRow). End Subscriber row.id) (record { here = λ row. refl; whose = λ row. refl; next = λ row. omega arith }) rows up

lsubs_end : (rows : List LivelinessSub) → Ascend (λ (row : LivelinessSub). row.id) rows → AreRising 5 5 (lsub_ends rows)
lsubs_end rows up =
    mapped 5 (λ (row : LivelinessSub). row.id) (λ (row : LivelinessSub). End LivelinessSubscriber row.id) (record { here = λ row. refl; whose = λ row. refl; next = λ row. omega arith }) rows up

ends_rising : (known : Known) (e : Event) → AreStanding known → AreRising 3 5 (ends_of known.queryables known.subs known.watch.subs e)
ends_rising known (Undeclare sub_kind id) st = wider 4 4 3 5 _ (omega arith) (omega arith) (one 4 (End Subscriber id) refl)
ends_rising known (Undeclare queryable_sort id) st = wider 3 3 3 5 _ (omega arith) (omega arith) (one 3 (End queryable_kind id) refl)
ends_rising known (Undeclare lsub_sort id) st = wider 5 5 3 5 _ (omega arith) (omega arith) (one 5 (End LivelinessSubscriber id) refl)
ends_rising known Close st =
    joined 3 4 5 5 (queryable_ends known.queryables ++ sub_ends known.subs) (lsub_ends known.watch.subs) (omega arith) (omega arith) (omega arith)
    (joined 3 3 4 4 (queryable_ends known.queryables) (sub_ends known.subs) (omega arith) (omega arith) (omega arith) (queryables_end known.queryables st.queryables) (subs_end known.subs st.subs))
    (lsubs_end known.watch.subs st.lsubs)
ends_rising known e st = none_rising 3 5

-- what is told of liveliness
tokens_rising : (kind : SampleKind) (before : Bool) (text : Option (List ℕ)) (subs : List LivelinessSub) → Ascend (λ (row : LivelinessSub). row.id) subs → AreRising 1 7 (token_hands kind before text subs)
tokens_rising kind before None subs up = none_rising 1 7
tokens_rising kind before (Some text) subs up =
    wider 1 1 1 7 _ (omega arith) (omega arith)
    (mapped 1 (λ (id : ℕ). id) (hand_token kind text) (record { here = λ id. refl; whose = λ id. refl; next = λ id. omega arith }) (hearers before text subs)
    (ascend_map (λ (id : ℕ). id) (λ (row : LivelinessSub). row.id) (filter (hears before text) subs) (ascend_filter (λ (row : LivelinessSub). row.id) (hears before text) subs up)))

history_rising : (history : Bool) (number : Option ℕ) (text : Option (List ℕ)) (tokens : List RemoteToken) → AreRising 1 7 (history_hands history number text tokens)
history_rising true (Some id) (Some text) tokens =
    wider 1 1 1 7 _ (omega arith) (omega arith) (still 1 id (hand_remote_token id) (record { here = λ key. refl; whose = λ key. refl; next = λ key. refl }) (met_keys text tokens))
history_rising true (Some id) None tokens = none_rising 1 7
history_rising true None text tokens = none_rising 1 7
history_rising false number text tokens = none_rising 1 7

answer_rising : (interest : Option ℕ) (text : Option (List ℕ)) → AreRising 1 7 (answer_hands interest text)
answer_rising (Some n) (Some text) = wider 2 2 1 7 _ (omega arith) (omega arith) (one 2 _ refl)
answer_rising (Some n) None = none_rising 1 7
answer_rising None text = none_rising 1 7

told_rising : (watch : Watch) (id : ℕ) (interest : Option ℕ) (text : Option (List ℕ)) → Ascend (λ (row : LivelinessSub). row.id) watch.subs → AreRising 1 7 (declared_hands watch id interest text)
told_rising watch id interest text up = go (is_remote_token id watch.remote_tokens)
  where
    go : (b : Bool) → AreRising 1 7 (if b then [] else token_hands put_kind (is_some interest) text watch.subs)
    go true = none_rising 1 7
    go false = tokens_rising put_kind (is_some interest) text watch.subs up

watch_rising : (watch : Watch) (number : Option ℕ) (text : Option (List ℕ)) (to : ToLiveliness) (ends : List Effect) → Ascend (λ (row : LivelinessSub). row.id) watch.subs → AreRising 3 5 ends
    → AreRising 1 7 (watch_effects watch number text to ends)
watch_rising watch number text NoToken ends up r = wider 3 5 1 7 ends (omega arith) (omega arith) r
watch_rising watch number text (Subscribes history) ends up r = history_rising history number text watch.remote_tokens
watch_rising watch number text (AsksTokens timeout token) ends up r = none_rising 1 7
watch_rising watch number text (TellsToken id interest) ends up r = go (answers interest watch.gets)
  where
    go : (b : Bool) → AreRising 1 7 (if b then answer_hands interest text else declared_hands watch id interest text)
    go true = answer_rising interest text
    go false = told_rising watch id interest text up
watch_rising watch number text (EndsToken id interest) ends up r = tokens_rising delete_kind (is_some interest) (ended_text (find (λ t. t.number == id) watch.remote_tokens) text) watch.subs up
watch_rising watch number text (EndsAnswers None) ends up r = none_rising 1 7
watch_rising watch number text (EndsAnswers (Some n)) ends up r = wider 7 7 1 7 _ (omega arith) (omega arith) (if_one 7 (is_asking n watch.gets) (end_asking n) refl)

-- no event both publishes something and tells of liveliness
abbrev AreApart : Publishes → ToLiveliness → Type 0
AreApart NoContent to = Unit {0}
AreApart p NoToken = Unit {0}
AreApart p to = ⊥

message_apart : (message : Message) → AreApart (message_row message).publishes (message_row message).to_liveliness
message_apart (push_message push) = tt
message_apart message = tt

apart : (e : Event) → AreApart (row_of e).publishes (row_of e).to_liveliness
apart (Publish destination key update quality) = tt
apart (PublishBy id update) = tt
apart (Net message) = message_apart message
apart e = tt

-- all that stands beside gets and query values
beside : (rows : List SubRow) (pubs : List PubRow) (watch : Watch) (number : Option ℕ) (text : Option (List ℕ)) (front ends : List Effect) (p : Publishes) (to : ToLiveliness) → AreApart p to
    → Ascend (λ (row : SubRow). row.id) rows → Ascend (λ (row : LivelinessSub). row.id) watch.subs → AllByRecursion IsSending front → AreRising 3 5 ends
    → AreRising 0 7 (front ++ hands_for rows (publication_on text (resolved pubs p)) ++ watch_effects watch number text to ends)
beside rows pubs watch number text front ends NoContent to is subs lsubs sent ended =
    joined 0 0 1 7 (front ++ []) (watch_effects watch number text to ends) (omega arith) (omega arith) (omega arith)
    (all_sent (front ++ []) (all_append IsSending front [] sent tt)) (watch_rising watch number text to ends lsubs ended)
beside rows pubs watch number text front ends p NoToken is subs lsubs sent ended =
    wider 0 5 0 7 _ (omega arith) (omega arith)
    (joined 0 1 3 5 (front ++ hands_for rows (publication_on text (resolved pubs p))) ends (omega arith) (omega arith) (omega arith)
    (joined 0 0 1 1 front (hands_for rows (publication_on text (resolved pubs p))) (omega arith) (omega arith) (omega arith) (all_sent front sent) (published rows text (resolved pubs p) subs)) ended)
beside rows pubs watch number text front ends p to is subs lsubs sent ended = absurd is

abbrev pub others_of : Known → Option ℕ → Option (List ℕ) → Event → List Effect
others_of known number text e =
    sends_of known.keys known.pubs number text e ++ entity_sends known e number text ++ hands_of known.subs known.pubs text e
    ++ watch_effects known.watch number text (row_of e).to_liveliness (ends_of known.queryables known.subs known.watch.subs e)

all_others : (known : Known) (number : Option ℕ) (text : Option (List ℕ)) (e : Event) → AreStanding known → AreRising 0 7 (others_of known number text e)
all_others known number text e st =
    beside known.subs known.pubs known.watch number text (sends_of known.keys known.pubs number text e ++ entity_sends known e number text) (ends_of known.queryables known.subs known.watch.subs e)
    (row_of e).publishes (row_of e).to_liveliness (apart e) st.subs st.lsubs (front_sent known number text e) (ends_rising known e st)

-- what gets are told
reply_rising : (p : Peek) (number : ℕ) (reply : Replied) → AreRising 0 7 (reply_effects p number reply)
reply_rising peek.Handed number reply = wider 1 1 0 7 _ (omega arith) (omega arith) (one 1 (hand_reply number reply) refl)
reply_rising peek.Unknown number reply = none_rising 0 7
reply_rising peek.Unmatched number reply = none_rising 0 7
reply_rising peek.Kept number reply = none_rising 0 7
reply_rising peek.Dropped number reply = none_rising 0 7

final_rising : (number : ℕ) (out : Outcome) → AreRising 0 7 (final_effects number out)
final_rising number (outcome.Ended replies) =
    wider 1 6 0 7 (map (hand_reply number) replies ++ end_get number ∷ []) (omega arith) (omega arith)
    (joined 1 1 6 6 (map (hand_reply number) replies) (end_get number ∷ []) (omega arith) (omega arith) (omega arith)
    (still 1 number (hand_reply number) (record { here = λ r. refl; whose = λ r. refl; next = λ r. refl }) replies) (one 6 (end_get number) refl))
final_rising number outcome.Counted = none_rising 0 7
final_rising number outcome.Unknown = none_rising 0 7
final_rising number outcome.Unmatched = none_rising 0 7
final_rising number outcome.Kept = none_rising 0 7
final_rising number outcome.Dropped = none_rising 0 7
final_rising number (outcome.Handed reply) = none_rising 0 7
final_rising number outcome.Repeated = none_rising 0 7

response_rising : (gets : List OpenGet) (response : Response) (answered : Answered) (text : Option (List ℕ)) → AreRising 0 7 (response_effects gets response answered text)
response_rising gets response (Reply body) None = none_rising 0 7
response_rising gets response (Reply body) (Some text) = reply_rising (peek_at (get_at response.rid gets) (sample_reply text response body)) response.rid (sample_reply text response body)
response_rising gets response (Error value) text = wider 1 1 0 7 _ (omega arith) (omega arith) (one 1 _ refl)

sent_alone : (m : Message) → AreRising 0 7 (Send m ∷ [])
sent_alone m = wider 0 0 0 7 _ (omega arith) (omega arith) (one 0 (Send m) refl)

answered_rising : (a : Answering) (key : NamedKey) (o : Option QueryValue) (quality : ReplyQuality) (body : Body) (text : Option (List ℕ)) → AreRising 0 7 (answer_effects a key o quality body text)
answered_rising a key None quality body text = none_rising 0 7
answered_rising a key (Some v) quality body None = none_rising 0 7
answered_rising a key (Some v) quality body (Some text) = go v.row.local
  where
    go : (b : Bool)
        → AreRising 0 7 (if b then replied_effects a.gets v.row.rid (local_reply a.zid v.queryable v.row quality body text)
        else Send (response_message (response_by a.zid v.queryable v.row.rid (wire_form a.keys text (declaration_of a.keys text key)) (quality_of quality v.row.qos) (Reply body))) ∷ [])
    go true = reply_rising (peek_at (get_at v.row.rid a.gets) (local_reply a.zid v.queryable v.row quality body text)) v.row.rid (local_reply a.zid v.queryable v.row quality body text)
    go false = sent_alone _

error_rising : (a : Answering) (o : Option QueryValue) (error : Value) → AreRising 0 7 (answer_error_effects a o error)
error_rising a None error = none_rising 0 7
error_rising a (Some v) error = go v.row.local (is_some (get_at v.row.rid a.gets))
  where
    go : (b o : Bool)
        → AreRising 0 7 (if b then if o then hand_reply v.row.rid (local_error a.zid v.queryable error) ∷ [] else []
        else Send (response_message (response_by a.zid v.queryable v.row.rid (full_wire v.row.key.text) v.row.qos (Error error))) ∷ [])
    go true true = wider 1 1 0 7 _ (omega arith) (omega arith) (one 1 _ refl)
    go true false = none_rising 0 7
    go false o = sent_alone _

finish_rising : (gets : List OpenGet) (f : Finished) → AreRising 0 7 (finish_effects gets f)
finish_rising gets Unknown = none_rising 0 7
finish_rising gets MoreLeft = none_rising 0 7
finish_rising gets (Last row) = go row.local
  where
    go : (b : Bool) → AreRising 0 7 (if b then final_effects row.rid (final_outcome Local (get_at row.rid gets)) else Send (ResponseFinal row.rid) ∷ [])
    go true = final_rising row.rid (final_outcome Local (get_at row.rid gets))
    go false = sent_alone _

-- the queries of a request, whose values go by its queryables
from_met : (first handed : ℕ) (row : RequestRow) (met : List ℕ) → Ascend (λ (id : ℕ). id) met → Ascend (λ (v : QueryValue). v.queryable) (values_from first handed row met)
from_met first handed row [] up = tt
from_met first handed row (q ∷ met) up = (later (first + 1) met up.0, from_met (first + 1) handed row met up.1)
  where
    later : (n : ℕ) (met : List ℕ) → AllByRecursion (λ (id : ℕ). q < id) met → AllByRecursion (λ (v : QueryValue). q < v.queryable) (values_from n handed row met)
    later n [] all = tt
    later n (m ∷ met) all = (all.0, later (n + 1) met all.1)

met_ascend : (local complete : Bool) (text : List ℕ) (rows : List QueryableRow) → Ascend (λ (row : QueryableRow). row.id) rows → Ascend (λ (id : ℕ). id) (met local complete text rows)
met_ascend local complete text rows up =
    ascend_map (λ (id : ℕ). id) (λ (row : QueryableRow). row.id) (filter (is_met local complete text) rows) (ascend_filter (λ (row : QueryableRow). row.id) (is_met local complete text) rows up)

get_met : (rows : List QueryableRow) (q : Question) (text : List ℕ) → Ascend (λ (row : QueryableRow). row.id) rows → Ascend (λ (id : ℕ). id) (met_by_get rows q text)
get_met rows q text up = go (has_session q.settings.destination)
  where
    go : (b : Bool) → Ascend (λ (id : ℕ). id) (if b then met true (wants_complete q.settings.target) text rows else [])
    go true = met_ascend true (wants_complete q.settings.target) text rows up
    go false = tt

asked_up : (rows : List QueryableRow) (h : Handing) (q : Question) (does : ToValues) (number : Option ℕ) (text : Option (List ℕ)) → Ascend (λ (row : QueryableRow). row.id) rows
    → Ascend (λ (v : QueryValue). v.queryable) (drawn_by rows h (Asks q) does number text)
asked_up rows h q does (Some number) (Some text) up = from_met h.next h.handed (get_request number text q) (met_by_get rows q text) (get_met rows q text up)
asked_up rows h q does (Some number) None up = tt
asked_up rows h q does None text up = tt

request_up : (rows : List QueryableRow) (h : Handing) (request : Request) (number : Option ℕ) (text : Option (List ℕ)) → Ascend (λ (row : QueryableRow). row.id) rows
    → Ascend (λ (v : QueryValue). v.queryable) (drawn_by rows h NoGet (Requested request) number text)
request_up rows h request number (Some text) up =
    from_met h.next h.handed (network_request text request) (met_by_request rows request text) (met_ascend false (wants_complete request.target) text rows up)
request_up rows h request number None up = tt

queries_rising : (values : List QueryValue) → Ascend (λ (v : QueryValue). v.queryable) values → AreRising 1 1 (map hand_query values)
queries_rising values up = mapped 1 (λ (v : QueryValue). v.queryable) hand_query (record { here = λ v. refl; whose = λ v. refl; next = λ v. omega arith }) values up

requested_rising : (rid : ℕ) (drawn : List QueryValue) → Ascend (λ (v : QueryValue). v.queryable) drawn → AreRising 0 7 (requested_effects rid drawn)
requested_rising rid [] up = sent_alone (ResponseFinal rid)
requested_rising rid (v ∷ drawn) up = wider 1 1 0 7 (map hand_query (v ∷ drawn)) (omega arith) (omega arith) (queries_rising (v ∷ drawn) up)

asking_rising : (default : ℕ) (wire : WireExpr) (number : ℕ) (q : Question) (values : List QueryValue) → Ascend (λ (v : QueryValue). v.queryable) values → AreRising 0 7 (ask_effects default wire number q values)
asking_rising default wire number q [] up = go (has_network q.settings.destination)
  where
    go : (b : Bool) → AreRising 0 7 (if b then Send (request_message (request_of default wire number q)) ∷ [] else end_get number ∷ [])
    go true = sent_alone _
    go false = wider 6 6 0 7 _ (omega arith) (omega arith) (one 6 (end_get number) refl)
asking_rising default wire number q (v ∷ values) up =
    joined 0 0 1 7 (if has_network q.settings.destination then Send (request_message (request_of default wire number q)) ∷ [] else []) (map hand_query (v ∷ values)) (omega arith) (omega arith) (omega arith)
    (if_one 0 (has_network q.settings.destination) (Send (request_message (request_of default wire number q))) refl) (wider 1 1 1 7 (map hand_query (v ∷ values)) (omega arith) (omega arith) (queries_rising (v ∷ values) up))

asked_rising : (known : Known) (key : NamedKey) (values : List QueryValue) (number : Option ℕ) (text : Option (List ℕ)) (q : Question) → Ascend (λ (v : QueryValue). v.queryable) values
    → AreRising 0 7 (asked_effects known.timeout known.keys key values number text q)
asked_rising known key values None text q up = none_rising 0 7
asked_rising known key values (Some number) None q up = none_rising 0 7
asked_rising known key values (Some number) (Some text) q up = asking_rising known.timeout (wire_form known.keys text (declaration_of known.keys text key)) number q values up

-- the ends of gets
numbers_end : (numbers : List ℕ) → Ascend (λ (n : ℕ). n) numbers → AreRising 6 6 (map end_get numbers)
numbers_end numbers up = mapped 6 (λ (n : ℕ). n) end_get (record { here = λ n. refl; whose = λ n. refl; next = λ n. omega arith }) numbers up

tokens_end : (numbers : List ℕ) → Ascend (λ (n : ℕ). n) numbers → AreRising 7 7 (map end_asking numbers)
tokens_end numbers up = mapped 7 (λ (n : ℕ). n) end_asking (record { here = λ n. refl; whose = λ n. refl; next = λ n. omega arith }) numbers up

timeouts_rising : (numbers : List ℕ) → Ascend (λ (n : ℕ). n) numbers → AreRising 2 2 (map (hand_answer timeout_error) numbers)
timeouts_rising numbers up = mapped 2 (λ (n : ℕ). n) (hand_answer timeout_error) (record { here = λ n. refl; whose = λ n. refl; next = λ n. omega arith }) numbers up

numbers_up : (keep : OpenGet → Bool) (gets : List OpenGet) → Ascend (λ (g : OpenGet). g.row.number) gets → Ascend (λ (n : ℕ). n) (map (λ (g : OpenGet). g.row.number) (filter keep gets))
numbers_up keep gets up = ascend_map (λ (n : ℕ). n) (λ (g : OpenGet). g.row.number) (filter keep gets) (ascend_filter (λ (g : OpenGet). g.row.number) keep gets up)

tokens_up : (keep : TokensGet → Bool) (gets : List TokensGet) → Ascend (λ (g : TokensGet). g.number) gets → Ascend (λ (n : ℕ). n) (map (λ (g : TokensGet). g.number) (filter keep gets))
tokens_up keep gets up = ascend_map (λ (n : ℕ). n) (λ (g : TokensGet). g.number) (filter keep gets) (ascend_filter (λ (g : TokensGet). g.number) keep gets up)

gets_rising : (gets asking : List ℕ) → Ascend (λ (n : ℕ). n) gets → Ascend (λ (n : ℕ). n) asking → AreRising 6 7 (map end_get gets ++ map end_asking asking)
gets_rising gets asking a b = joined 6 6 7 7 (map end_get gets) (map end_asking asking) (omega arith) (omega arith) (omega arith) (numbers_end gets a) (tokens_end asking b)

moment_rising : (ends : List (ℕ × List Replied)) (over : List ℕ) → Ascend (λ (end : ℕ × List Replied). end.0) ends → Ascend (λ (n : ℕ). n) over → AreRising 0 7 (ends_effects ends over)
moment_rising ends over a b =
    let first = flat_map last_hands ends in
    let timeouts = map (hand_answer timeout_error) over in
    let gets = map end_get (map (λ (end : ℕ × List Replied). end.0) ends) in
    wider 1 7 0 7 (ends_effects ends over) (omega arith) (omega arith)
    (joined 1 6 7 7 (first ++ timeouts ++ gets) (map end_asking over) (omega arith) (omega arith) (omega arith)
    (joined 1 2 6 6 (first ++ timeouts) gets (omega arith) (omega arith) (omega arith)
    (joined 1 1 2 2 first timeouts (omega arith) (omega arith) (omega arith) (last_rising ends a) (timeouts_rising over b))
    (numbers_end (map (λ (end : ℕ × List Replied). end.0) ends) (ascend_map (λ (n : ℕ). n) (λ (end : ℕ × List Replied). end.0) ends a)))
    (tokens_end over b))

ends_up : (moment : ℕ) (gets : List OpenGet) → Ascend (λ (g : OpenGet). g.row.number) gets → Ascend (λ (end : ℕ × List Replied). end.0) (ends_at moment gets)
ends_up moment gets up = ascend_map (λ (end : ℕ × List Replied). end.0) end_of (filter (is_due moment) gets) (ascend_filter (λ (g : OpenGet). g.row.number) (is_due moment) gets up)

-- all that an event brings about by itself
all_rising : (known : Known) (number : Option ℕ) (text : Option (List ℕ)) (e : Event) → AreStanding known → AreRising 0 7 (effects_on known number text e)
all_rising known number text (Get key settings inquiry to) st =
    let q : Question = record { settings = settings; inquiry = inquiry; querier = None } in
    asked_rising known (OwnKey key) (draws_of known number text (Get key settings inquiry to)) number text q (asked_up known.queryables known.handing q NoValue number text st.queryables)
all_rising known number text (QuerierGet id inquiry to) st = go (querier_at id known.queriers)
  where
    go : (o : Option QuerierRow)
        → AreRising 0 7 (with_gets (asks_of inquiry o) [] (request_effects known.timeout known.keys (QuerierKey id) (drawn_by known.queryables known.handing (asks_of inquiry o) NoValue number text) number text (asks_of inquiry o))
        (told_effects known.gets known.watch.gets text (asks_of inquiry o)))
    go None = none_rising 0 7
    go (Some row) =
        asked_rising known (QuerierKey id) (drawn_by known.queryables known.handing (asks_of inquiry (Some row)) NoValue number text) number text (question_of row inquiry)
        (asked_up known.queryables known.handing (question_of row inquiry) NoValue number text st.queryables)
all_rising known number text (Undeclare querier_sort id) st =
    let e : Event = Undeclare querier_sort id in
    let front = sends_of known.keys known.pubs number text e ++ entity_sends known e number text in
    joined 0 0 6 7 (others_of known number text e) (cut_effects (QuerierEnds id) known.gets) (omega arith) (omega arith) (omega arith)
    (all_sent (front ++ [] ++ []) (all_append IsSending (front ++ []) [] (all_append IsSending front [] (front_sent known number text e) tt) tt))
    (wider 6 6 6 7 (cut_effects (QuerierEnds id) known.gets) (omega arith) (omega arith) (numbers_end (ended_numbers (QuerierEnds id) known.gets) (numbers_up (λ g. is_end g.row (QuerierEnds id)) known.gets st.gets)))
all_rising known number text (Cancel token) st =
    wider 6 7 0 7 (cut_effects (CancelledBy token) known.gets ++ cancelled_ends token known.watch.gets) (omega arith) (omega arith)
    (gets_rising (ended_numbers (CancelledBy token) known.gets) (numbers_with token known.watch.gets) (numbers_up (λ g. is_end g.row (CancelledBy token)) known.gets st.gets)
    (tokens_up (λ g. is_own token g.cancellation_token) known.watch.gets st.asking))
all_rising known number text (Tick moment) st =
    moment_rising (ends_at moment known.gets) (over_at moment known.watch.gets) (ends_up moment known.gets st.gets) (tokens_up (is_over moment) known.watch.gets st.asking)
all_rising known number text Close st =
    let e : Event = Close in
    let front = sends_of known.keys known.pubs number text e ++ entity_sends known e number text in
    joined 0 5 6 7 (others_of known number text e) (map end_get (map (λ (g : OpenGet). g.row.number) known.gets) ++ asking_ends known.watch.gets) (omega arith) (omega arith) (omega arith)
    (joined 0 0 3 5 (front ++ []) (ends_of known.queryables known.subs known.watch.subs e) (omega arith) (omega arith) (omega arith)
    (all_sent (front ++ []) (all_append IsSending front [] (front_sent known number text e) tt)) (ends_rising known e st))
    (gets_rising (map (λ (g : OpenGet). g.row.number) known.gets) (map (λ (g : TokensGet). g.number) known.watch.gets)
    (ascend_map (λ (n : ℕ). n) (λ (g : OpenGet). g.row.number) known.gets st.gets) (ascend_map (λ (n : ℕ). n) (λ (g : TokensGet). g.number) known.watch.gets st.asking))
all_rising known number text (reply_event value key update quality) st = answered_rising (answering known) (OwnKey key) (value_at value known.handing.values) quality _ text
all_rising known number text (ReplyErr value error) st = error_rising (answering known) (value_at value known.handing.values) _
all_rising known number text (Finish value) st = finish_rising known.gets (finished (value_at value known.handing.values) known.handing.values)
all_rising known number text (Share value) st = none_rising 0 7
all_rising known number text (Net (request_message request)) st =
    requested_rising request.rid (draws_of known number text (Net (request_message request))) (request_up known.queryables known.handing request number text st.queryables)
all_rising known number text (Net (response_message response)) st = response_rising known.gets response response.answered text
all_rising known number text (Net (ResponseFinal rid)) st = final_rising rid (final_outcome Network (get_at rid known.gets))
all_rising known number text e st = all_others known number text e st

-- what listeners hear
heard_rising : (past : List Entry) (x : Entry) → Ascend (λ (row : ListenerRow). row.id) (live_listeners past) → Ascend (λ (row : ListenerRow). row.id) (live_listeners (x ∷ past))
    → AreRising 8 9 (listener_effects past x)
heard_rising past x up later =
    let gone : ListenerRow → Bool = λ row. not (is_listener row.id (live_listeners (x ∷ past))) in
    let before : ListenerRow → Bool = λ row. is_listener row.id (live_listeners past) && is_matched past row in
    let after : ListenerRow → Bool = is_matched (x ∷ past) in
    joined 8 8 9 9 (listener_ends (filter gone (live_listeners past))) (turned before after (live_listeners (x ∷ past))) (omega arith) (omega arith) (omega arith)
    (mapped 8 (λ (row : ListenerRow). row.id) (λ (row : ListenerRow). End listener_kind row.id) (record { here = λ row. refl; whose = λ row. refl; next = λ row. omega arith })
    (filter gone (live_listeners past)) (ascend_filter (λ (row : ListenerRow). row.id) gone (live_listeners past) up))
    (mapped 9 (λ (row : ListenerRow). row.id) (λ (row : ListenerRow). Matching row.id (after row)) (record { here = λ row. refl; whose = λ row. refl; next = λ row. omega arith })
    (filter (λ row. differ (before row) (after row)) (live_listeners (x ∷ past))) (ascend_filter (λ (row : ListenerRow). row.id) (λ row. differ (before row) (after row)) (live_listeners (x ∷ past)) later))

pub effects_ascend : EffectsAscend
effects_ascend s h e = go (is_closed (past_of s h)) (refusal_of s (past_of s h) e)
  where
    x : Entry
    x = entry_of s (past_of s h) e

    go : (b : Bool) (o : Option Refusal) → AreAscending (if b then answered o None [] else answered o (entry_of s (past_of s h) e).number (effects_behind s (past_of s h) e)).effects
    go true (Some refusal) = tt
    go true None = tt
    go false (Some refusal) = tt
    go false None =
        (joined 0 7 8 9 (effects_on (known_of s (past_of s h)) x.number (named_text (past_of s h) e) e) (listener_effects (past_of s h) x) (omega arith) (omega arith) (omega arith)
        (all_rising (known_of s (past_of s h)) x.number (named_text (past_of s h) e) e (all_stand s h))
        (heard_rising (past_of s h) x (listeners_below s h).ascend (listeners_more s (past_of s h) e (listeners_below s h)).ascend)).rising
