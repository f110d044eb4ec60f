-- The messages among the effects of an event: those that it sends, and none in what it hands out and in what ends.
use Rattle.std.proofs.Common.{◌≡◌, ℕ, List, [], ◌∷◌, ◌++◌, Bool, true, false, Option, Some, None, refl, sym, ◌∙◌, ap, subst, map, cond}
use Rattle.std.specs.Prelude.{◌==◌, ◌&&◌, not, filter, is_some, if◌then◌else◌}
use Rattle.std.specs.List.{find, flat_map}
use mathlib.Core.List.{append-nil}
use Rattle.zs_keys.specs.Key.{Key as a_key}
use Rattle.zs_wire.specs.declared.message.Message.{Message}
use Rattle.zs_wire.specs.declared.message.Message.TheVariants.{Request as request_message, Response as response_message, ResponseFinal}
use Rattle.zs_subscriptions.specs.declared.subscriber.SubRow.{SubRow}
use Rattle.zs_tables.specs.declared.queryable.QueryableRow.{QueryableRow}
use Rattle.zs_model.specs.Queryables.{queryable_ends}
use Rattle.zs_events.specs.declared.event.Event.{Event}
use Rattle.zs_events.specs.declared.event.Event.TheVariants.{Undeclare, Close, Net, Get, QuerierGet, Cancel, Tick, Reply as reply_event, ReplyErr, Finish}
use Rattle.zs_events.specs.declared.entity_kind.EntityKind.TheVariants.{Sub as sub_kind, Querier as querier_sort}
use Rattle.zs_events.specs.declared.turn.Effect.{Effect}
use Rattle.zs_events.specs.declared.turn.Effect.TheVariants.{Send, Hand, Matching}
use Rattle.zs_events.specs.declared.turn.HandOver.TheVariants.{Sample as sample_for}
use Rattle.zs_events.specs.declared.turn.Kind.TheVariants.{Subscriber}
use Rattle.zs_events.specs.Kinds.{NamedKey, Publishes, NoContent, OwnContent, ByPublisher, ToValues, NoValue, Requested, AnswersBy, AnswersError, SharesValue, GivesBack, row_of, ToLiveliness, NoToken, Subscribes, AsksTokens, TellsToken, EndsToken, EndsAnswers}
use Rattle.zs_wire.specs.declared.sample_kind.SampleKind.{SampleKind}
use Rattle.zs_wire.specs.declared.sample_kind.SampleKind.TheVariants.{Put as put_kind, Delete as delete_kind}
use Rattle.zs_tables.specs.Liveliness.{met_keys, hearers}
use Rattle.zs_tables.specs.LivelinessGets.{is_asking, over_at, numbers_with}
use Rattle.zs_tables.specs.Types.{LivelinessSub, LivelinessGet as AskingGet, RemoteToken}
use Rattle.zs_model.specs.Tokens.{answers, is_remote_token}
use Rattle.zs_model.specs.LivelinessEffects.{Watch, hand_token, hand_remote_token, hand_answer, end_asking, cancelled_ends, asking_ends, lsub_ends, token_hands, history_hands, answer_hands, declared_hands, ended_text, watch_effects}
use Rattle.zs_sample.specs.Reply.{Replied}
use Rattle.zs_wire.specs.declared.response.Answered.{Answered}
use Rattle.zs_wire.specs.declared.response.Answered.TheVariants.{Reply, Err as Error}
use Rattle.zs_wire.specs.declared.response.Response.{Response}
use Rattle.zs_query.specs.declared.open_get.OpenGet.{OpenGet}
use Rattle.zs_query.specs.declared.side.Side.TheVariants.{Local, Network}
use Rattle.zs_query.specs.Types.{QueryValue, RequestRow, Finished, Unknown, MoreLeft, Last}
use Rattle.zs_query.specs.Unfinished.{value_at, finished}
use Rattle.zs_query.specs.declared.outcome.Outcome.{Outcome}
use Rattle.zs_query.specs.declared.outcome.Outcome.TheVariants as outcome
use Rattle.zs_query.specs.declared.outcome.Peek.{Peek}
use Rattle.zs_query.specs.declared.outcome.Peek.TheVariants as peek
use Rattle.zs_query.specs.Gets.{get_at, peek_at, final_outcome, ends_at, timeout_error}
use Rattle.zs_model.specs.Gets.{sample_reply}
use Rattle.zs_model.specs.GetEffects.{hand_reply, hand_query, end_get, last_hands, ends_effects, reply_effects, response_effects, final_effects, request_effects, told_effects, with_gets, ended_numbers, cut_effects}
use Rattle.zs_model.specs.Values.{drawn_by}
use Rattle.zs_model.specs.Answers.{quality_of, local_reply, local_error, response_by}
use Rattle.zs_model.specs.ValueEffects.{Answering, error_effects, replied_effects, answer_effects, answer_error_effects, finish_effects, value_effects}
use Rattle.zs_world.specs.World.{World, present_at}
use Rattle.zs_model.specs.Publications.{Publication, sample_on, allows, hands}
use Rattle.zs_model.specs.Subscribers.{sub_ends}
use Rattle.zs_model.specs.Publishers.{resolved}
use Rattle.zs_model.specs.declared.querier.QuerierRow.{QuerierRow}
use Rattle.zs_model.specs.Queriers.{querier_at, asks_of}
use Rattle.zs_query.specs.Asked.{QuerierEnds, CancelledBy}
use Rattle.zs_model.specs.Sends.{full_wire, wire_form, declaration_of, sends_of}
use Rattle.zs_model.specs.Effects.{Known, to_gets_for, draws_of, answering, entity_sends, publication_on, hands_of, hands_for, ends_of, effects_on, turn_of}
use Rattle.zs_world.specs.Decisions.{text_for, number_for, known_at, effects_of, decision, listener_effects_at}
use Rattle.zs_world.specs.Changes.{with_change}
use Rattle.zs_model.specs.Entry.{Entry}
use Rattle.zs_model.specs.declared.settings.Settings.{Settings}
use Rattle.zs_events.specs.declared.turn.Turn.{Turn}
use Rattle.zs_model.specs.Received.{messages_of, sent_behind}
use Rattle.zs_tables.specs.declared.listener.ListenerRow.{ListenerRow}
use Rattle.zs_tables.specs.Matching.{status}
use Rattle.zs_tables.specs.MatchingLaws.{differ}
use Rattle.zs_model.specs.Listeners.{is_listener, listener_ends}
use Rattle.zs_model.specs.Matching.{turned}
use Rattle.zs_standing.proofs.Stands.{AreStanding, same_turn}

-- the messages are those that are sent: what is handed out and what ends are none
pub messages_append : (xs ys : List Effect) → messages_of (xs ++ ys) ≡ messages_of xs ++ messages_of ys
messages_append [] ys = refl
messages_append (Send message ∷ xs) ys = ap (λ (ms : List Message). message ∷ ms) (messages_append xs ys)
messages_append (x ∷ xs) ys = messages_append xs ys

pub no_messages_in_hands : (p : Publication) (rows : List SubRow) → messages_of (hands p rows) ≡ []
no_messages_in_hands p [] = refl
no_messages_in_hands p (row ∷ rows) = go (allows p row) (no_messages_in_hands p rows)
  where
    go : (b : Bool) → messages_of (hands p rows) ≡ [] → messages_of (map (λ (row : SubRow). Hand (sample_for Subscriber row.id p.sample)) (cond b (row ∷ filter (allows p) rows) (filter (allows p) rows))) ≡ []
    go true none = none
    go false none = none

pub no_messages_in_ends : (rows : List SubRow) → messages_of (sub_ends rows) ≡ []
no_messages_in_ends [] = refl
no_messages_in_ends (row ∷ rows) = no_messages_in_ends rows

pub no_hand_messages : (rows : List SubRow) (text : Option (List ℕ)) (p : Publishes) → messages_of (hands_for rows (publication_on text p)) ≡ []
no_hand_messages rows text NoContent = refl
no_hand_messages rows None (ByPublisher id c) = refl
no_hand_messages rows (Some text) (ByPublisher id c) = refl
no_hand_messages rows None (OwnContent c) = refl
no_hand_messages rows (Some text) (OwnContent c) =
    no_messages_in_hands (record { local = c.local; destination = c.destination; sample = sample_on text c }) rows

pub no_messages_in_queryable_ends : (rows : List QueryableRow) → messages_of (queryable_ends rows) ≡ []
no_messages_in_queryable_ends [] = refl
no_messages_in_queryable_ends (row ∷ rows) = no_messages_in_queryable_ends rows

pub no_messages_in_lsub_ends : (rows : List LivelinessSub) → messages_of (lsub_ends rows) ≡ []
no_messages_in_lsub_ends [] = refl
no_messages_in_lsub_ends (row ∷ rows) = no_messages_in_lsub_ends rows

pub no_end_messages : (queryables : List QueryableRow) (rows : List SubRow) (lsubs : List LivelinessSub) (e : Event) → messages_of (ends_of queryables rows lsubs e) ≡ []
no_end_messages queryables rows lsubs (Undeclare sub_kind id) = refl
no_end_messages queryables rows lsubs Close =
    messages_append (queryable_ends queryables ++ sub_ends rows) (lsub_ends lsubs)
    ∙ ap (λ (ms : List Message). ms ++ messages_of (lsub_ends lsubs))
    (messages_append (queryable_ends queryables) (sub_ends rows)
    ∙ ap (λ (ms : List Message). ms ++ messages_of (sub_ends rows)) (no_messages_in_queryable_ends queryables)
    ∙ no_messages_in_ends rows)
    ∙ no_messages_in_lsub_ends lsubs
no_end_messages queryables rows lsubs e = refl

-- nor is what is told of liveliness
pub no_messages_in_tokens : (kind : SampleKind) (before : Bool) (text : Option (List ℕ)) (subs : List LivelinessSub) → messages_of (token_hands kind before text subs) ≡ []
no_messages_in_tokens kind before None subs = refl
no_messages_in_tokens kind before (Some text) subs = go (hearers before text subs)
  where
    go : (ids : List ℕ) → messages_of (map (hand_token kind text) ids) ≡ []
    go [] = refl
    go (id ∷ ids) = go ids

pub no_messages_in_history : (history : Bool) (number : Option ℕ) (text : Option (List ℕ)) (tokens : List RemoteToken) → messages_of (history_hands history number text tokens) ≡ []
no_messages_in_history true (Some id) (Some text) tokens = go (met_keys text tokens)
  where
    go : (keys : List a_key) → messages_of (map (hand_remote_token id) keys) ≡ []
    go [] = refl
    go (key ∷ keys) = go keys
no_messages_in_history true (Some id) None tokens = refl
no_messages_in_history true None text tokens = refl
no_messages_in_history false number text tokens = refl

pub no_messages_in_answer : (interest : Option ℕ) (text : Option (List ℕ)) → messages_of (answer_hands interest text) ≡ []
no_messages_in_answer None text = refl
no_messages_in_answer (Some number) None = refl
no_messages_in_answer (Some number) (Some text) = refl

pub no_messages_in_told : (watch : Watch) (id : ℕ) (interest : Option ℕ) (text : Option (List ℕ)) → messages_of (declared_hands watch id interest text) ≡ []
no_messages_in_told watch id interest text = go (is_remote_token id watch.remote_tokens)
  where
    go : (b : Bool) → messages_of (if b then [] else token_hands put_kind (is_some interest) text watch.subs) ≡ []
    go true = refl
    go false = no_messages_in_tokens put_kind (is_some interest) text watch.subs

pub no_watch_messages : (watch : Watch) (number : Option ℕ) (text : Option (List ℕ)) (to : ToLiveliness) (ends : List Effect) → messages_of ends ≡ [] → messages_of (watch_effects watch number text to ends) ≡ []
no_watch_messages watch number text NoToken ends none = none
no_watch_messages watch number text (Subscribes history) ends none = no_messages_in_history history number text watch.remote_tokens
no_watch_messages watch number text (AsksTokens timeout token) ends none = refl
no_watch_messages watch number text (TellsToken id interest) ends none = go (answers interest watch.gets)
  where
    go : (b : Bool) → messages_of (if b then answer_hands interest text else declared_hands watch id interest text) ≡ []
    go true = no_messages_in_answer interest text
    go false = no_messages_in_told watch id interest text
no_watch_messages watch number text (EndsToken id interest) ends none =
    no_messages_in_tokens delete_kind (is_some interest) (ended_text (find (λ t. t.number == id) watch.remote_tokens) text) watch.subs
no_watch_messages watch number text (EndsAnswers None) ends none = refl
no_watch_messages watch number text (EndsAnswers (Some n)) ends none = go (is_asking n watch.gets)
  where
    go : (b : Bool) → messages_of (if b then end_asking n ∷ [] else []) ≡ []
    go true = refl
    go false = refl

pub no_messages_in_timeouts : (numbers : List ℕ) → messages_of (map (hand_answer timeout_error) numbers) ≡ []
no_messages_in_timeouts [] = refl
no_messages_in_timeouts (n ∷ numbers) = no_messages_in_timeouts numbers

pub no_messages_in_asking_ends : (numbers : List ℕ) → messages_of (map end_asking numbers) ≡ []
no_messages_in_asking_ends [] = refl
no_messages_in_asking_ends (n ∷ numbers) = no_messages_in_asking_ends numbers

-- behind what has no messages come those of the rest
pub silent : (xs ys : List Effect) → messages_of xs ≡ [] → messages_of (xs ++ ys) ≡ messages_of ys
silent xs ys none = messages_append xs ys ∙ ap (λ (ms : List Message). ms ++ messages_of ys) none

-- what an event sends of its key, and of the group that an entity joins or leaves
abbrev pub told_beside : Known → Option ℕ → Option (List ℕ) → Event → List Message
told_beside known number text e = messages_of (sends_of known.keys known.pubs number text e) ++ messages_of (entity_sends known e number text)

abbrev pub last_of : Known → Option ℕ → Option (List ℕ) → Event → List Effect
last_of known number text e = watch_effects known.watch number text (row_of e).to_liveliness (ends_of known.queryables known.subs known.watch.subs e)

pub beside_sends : (known : Known) (number : Option ℕ) (text : Option (List ℕ)) (e : Event)
    → messages_of (sends_of known.keys known.pubs number text e ++ entity_sends known e number text ++ hands_of known.subs known.pubs text e ++ last_of known number text e) ≡ told_beside known number text e
beside_sends known number text e =
    let both = sends_of known.keys known.pubs number text e ++ entity_sends known e number text in
    let fx = hands_of known.subs known.pubs text e in
    messages_append (both ++ fx) (last_of known number text e)
    ∙ ap (λ (ms : List Message). messages_of (both ++ fx) ++ ms)
    (no_watch_messages known.watch number text (row_of e).to_liveliness (ends_of known.queryables known.subs known.watch.subs e) (no_end_messages known.queryables known.subs known.watch.subs e))
    ∙ append-nil (messages_of (both ++ fx))
    ∙ messages_append both fx
    ∙ ap (λ (ms : List Message). messages_of both ++ ms) (no_hand_messages known.subs text (resolved known.pubs (row_of e).publishes))
    ∙ append-nil (messages_of both)
    ∙ messages_append (sends_of known.keys known.pubs number text e) (entity_sends known e number text)

-- what gets are told is no message either
pub no_messages_in_replies : (number : ℕ) (replies : List Replied) → messages_of (map (hand_reply number) replies) ≡ []
no_messages_in_replies number [] = refl
no_messages_in_replies number (reply ∷ replies) = no_messages_in_replies number replies

pub no_messages_in_get_ends : (numbers : List ℕ) → messages_of (map end_get numbers) ≡ []
no_messages_in_get_ends [] = refl
no_messages_in_get_ends (n ∷ numbers) = no_messages_in_get_ends numbers

pub no_messages_in_last_hands : (ends : List (ℕ × List Replied)) → messages_of (flat_map last_hands ends) ≡ []
no_messages_in_last_hands [] = refl
no_messages_in_last_hands (end ∷ ends) =
    messages_append (last_hands end) (flat_map last_hands ends)
    ∙ ap (λ (ms : List Message). ms ++ messages_of (flat_map last_hands ends)) (no_messages_in_replies end.0 end.1)
    ∙ no_messages_in_last_hands ends

pub no_messages_in_all_ends : (ends : List (ℕ × List Replied)) (over : List ℕ) → messages_of (ends_effects ends over) ≡ []
no_messages_in_all_ends ends over =
    let first = flat_map last_hands ends in
    let over_hands = map (hand_answer timeout_error) over in
    let numbers = map (λ (end : ℕ × List Replied). end.0) ends in
    let front : messages_of (first ++ over_hands) ≡ [] = silent first over_hands (no_messages_in_last_hands ends) ∙ no_messages_in_timeouts over in
    let most : messages_of (first ++ over_hands ++ map end_get numbers) ≡ [] = silent (first ++ over_hands) (map end_get numbers) front ∙ no_messages_in_get_ends numbers in
    silent (first ++ over_hands ++ map end_get numbers) (map end_asking over) most ∙ no_messages_in_asking_ends over

pub no_messages_in_reply : (p : Peek) (number : ℕ) (reply : Replied) → messages_of (reply_effects p number reply) ≡ []
no_messages_in_reply peek.Handed number reply = refl
no_messages_in_reply peek.Unknown number reply = refl
no_messages_in_reply peek.Unmatched number reply = refl
no_messages_in_reply peek.Kept number reply = refl
no_messages_in_reply peek.Dropped number reply = refl

pub no_messages_in_response : (gets : List OpenGet) (response : Response) (answered : Answered) (text : Option (List ℕ)) → messages_of (response_effects gets response answered text) ≡ []
no_messages_in_response gets response (Reply body) None = refl
no_messages_in_response gets response (Reply body) (Some text) =
    no_messages_in_reply (peek_at (get_at response.rid gets) (sample_reply text response body)) response.rid (sample_reply text response body)
no_messages_in_response gets response (Error value) text = refl

pub no_messages_in_final : (number : ℕ) (out : Outcome) → messages_of (final_effects number out) ≡ []
no_messages_in_final number (outcome.Ended replies) =
    messages_append (map (hand_reply number) replies) (end_get number ∷ []) ∙ ap (λ (ms : List Message). ms ++ []) (no_messages_in_replies number replies)
no_messages_in_final number outcome.Unknown = refl
no_messages_in_final number outcome.Unmatched = refl
no_messages_in_final number outcome.Kept = refl
no_messages_in_final number outcome.Dropped = refl
no_messages_in_final number (outcome.Handed reply) = refl
no_messages_in_final number outcome.Counted = refl
no_messages_in_final number outcome.Repeated = refl

-- nor are queries
pub no_messages_in_queries : (values : List QueryValue) → messages_of (map hand_query values) ≡ []
no_messages_in_queries [] = refl
no_messages_in_queries (v ∷ values) = no_messages_in_queries values

pub no_messages_in_error : (o : Option OpenGet) (number : ℕ) (reply : Replied) → messages_of (error_effects o number reply) ≡ []
no_messages_in_error None number reply = refl
no_messages_in_error (Some g) number reply = refl

-- an answer is a response, a final, or nothing that is sent
pub value_cases : (P : List Message → Type 0) → P [] → ((r : Response) → P (response_message r ∷ [])) → ((rid : ℕ) → P (ResponseFinal rid ∷ []))
    → (a : Answering) (key : NamedKey) (drawn : List QueryValue) (text : Option (List ℕ)) (to : ToValues) → P (messages_of (value_effects a key drawn text to))
value_cases P none response final a key drawn text NoValue = none
value_cases P none response final a key [] text (Requested request) = final request.rid
value_cases P none response final a key (v ∷ drawn) text (Requested request) = subst P (sym (no_messages_in_queries (v ∷ drawn))) none
value_cases P none response final a key drawn text (AnswersBy value body quality) = go (value_at value a.values) text
  where
    by : (v : QueryValue) (text : List ℕ) (b : Bool)
        → P (messages_of (if b then replied_effects a.gets v.row.rid (local_reply a.zid v.queryable v.row quality body text)
        else Send (response_message (response_by a.zid v.queryable v.row.rid (wire_form a.keys text (declaration_of a.keys text key)) (quality_of quality v.row.qos) (Reply body))) ∷ []))
    by v text true = subst P (sym (no_messages_in_reply (peek_at (get_at v.row.rid a.gets) (local_reply a.zid v.queryable v.row quality body text)) v.row.rid (local_reply a.zid v.queryable v.row quality body text))) none
    by v text false =
        response (response_by a.zid v.queryable v.row.rid (wire_form a.keys text (declaration_of a.keys text key)) (quality_of quality v.row.qos) (Reply body))

    go : (o : Option QueryValue) (text : Option (List ℕ)) → P (messages_of (answer_effects a key o quality body text))
    go None text = none
    go (Some v) None = none
    go (Some v) (Some text) = by v text v.row.local
value_cases P none response final a key drawn text (AnswersError value error) = go (value_at value a.values)
  where
    by : (v : QueryValue) (b : Bool)
        → P (messages_of (if b then error_effects (get_at v.row.rid a.gets) v.row.rid (local_error a.zid v.queryable error)
        else Send (response_message (response_by a.zid v.queryable v.row.rid (full_wire v.row.key.text) v.row.qos (Error error))) ∷ []))
    by v true = subst P (sym (no_messages_in_error (get_at v.row.rid a.gets) v.row.rid (local_error a.zid v.queryable error))) none
    by v false = response (response_by a.zid v.queryable v.row.rid (full_wire v.row.key.text) v.row.qos (Error error))

    go : (o : Option QueryValue) → P (messages_of (answer_error_effects a o error))
    go None = none
    go (Some v) = by v v.row.local
value_cases P none response final a key drawn text (SharesValue value) = none
value_cases P none response final a key drawn text (GivesBack value) = go (finished (value_at value a.values) a.values)
  where
    by : (row : RequestRow) (b : Bool) → P (messages_of (if b then final_effects row.rid (final_outcome Local (get_at row.rid a.gets)) else Send (ResponseFinal row.rid) ∷ []))
    by row true = subst P (sym (no_messages_in_final row.rid (final_outcome Local (get_at row.rid a.gets)))) none
    by row false = final row.rid

    go : (f : Finished) → P (messages_of (finish_effects a.gets f))
    go Unknown = none
    go MoreLeft = none
    go (Last row) = by row row.local

-- all that an event sends: the request of a get, an answer, and what it sends beside
abbrev pub asked_by : Known → Option ℕ → Option (List ℕ) → Event → List Message
asked_by known number text e = messages_of (request_effects known.timeout known.keys (row_of e).key (draws_of known number text e) number text (to_gets_for known e))

-- the response or the final of an answer
abbrev pub answered_by : Known → Option ℕ → Option (List ℕ) → Event → List Message
answered_by known number text e = messages_of (value_effects (answering known) (row_of e).key (draws_of known number text e) text (row_of e).to_values)

abbrev pub told_by_event : Known → Option ℕ → Option (List ℕ) → Event → List Message
told_by_event known number text e = asked_by known number text e ++ (answered_by known number text e ++ told_beside known number text e)

pub all_sends : (known : Known) (number : Option ℕ) (text : Option (List ℕ)) (e : Event) → messages_of (effects_on known number text e) ≡ told_by_event known number text e
all_sends known number text (Get key settings inquiry to) = sym (append-nil _)
all_sends known number text (reply_event value key update quality) = sym (append-nil _)
all_sends known number text (ReplyErr value error) = sym (append-nil _)
all_sends known number text (Finish value) = sym (append-nil _)
all_sends known number text (Net (request_message request)) = sym (append-nil _)
all_sends known number text (QuerierGet id inquiry to) = go (querier_at id known.queriers)
  where
    e : Event
    e = QuerierGet id inquiry to

    go : (o : Option QuerierRow)
        → messages_of (with_gets (asks_of inquiry o) [] (request_effects known.timeout known.keys (row_of e).key (drawn_by known.queryables known.handing (asks_of inquiry o) NoValue number text) number text (asks_of inquiry o)) (told_effects known.gets known.watch.gets text (asks_of inquiry o)))
        ≡ messages_of (request_effects known.timeout known.keys (row_of e).key (drawn_by known.queryables known.handing (asks_of inquiry o) NoValue number text) number text (asks_of inquiry o)) ++ []
    go None = refl
    go (Some row) = sym (append-nil _)
all_sends known number text (Undeclare querier_sort id) =
    messages_append (sends_of known.keys known.pubs number text (Undeclare querier_sort id) ++ entity_sends known (Undeclare querier_sort id) number text ++ [] ++ []) (cut_effects (QuerierEnds id) known.gets)
    ∙ ap (λ (ms : List Message). messages_of (sends_of known.keys known.pubs number text (Undeclare querier_sort id) ++ entity_sends known (Undeclare querier_sort id) number text ++ [] ++ []) ++ ms) (no_messages_in_get_ends (ended_numbers (QuerierEnds id) known.gets))
    ∙ append-nil _
    ∙ beside_sends known number text (Undeclare querier_sort id)
all_sends known number text (Cancel token) =
    silent (cut_effects (CancelledBy token) known.gets) (cancelled_ends token known.watch.gets) (no_messages_in_get_ends (ended_numbers (CancelledBy token) known.gets))
    ∙ no_messages_in_asking_ends (numbers_with token known.watch.gets)
all_sends known number text (Tick now) = no_messages_in_all_ends (ends_at now known.gets) (over_at now known.watch.gets)
all_sends known number text Close =
    let others = sends_of known.keys known.pubs number text Close ++ entity_sends known Close number text ++ hands_of known.subs known.pubs text Close ++ last_of known number text Close in
    let gets = map end_get (map (λ (g : OpenGet). g.row.number) known.gets) in
    let ended : messages_of (gets ++ asking_ends known.watch.gets) ≡ [] =
    silent gets (asking_ends known.watch.gets) (no_messages_in_get_ends (map (λ (g : OpenGet). g.row.number) known.gets))
    ∙ no_messages_in_asking_ends (map (λ (g : AskingGet). g.number) known.watch.gets) in
    messages_append others (gets ++ asking_ends known.watch.gets)
    ∙ ap (λ (ms : List Message). messages_of others ++ ms) ended
    ∙ append-nil (messages_of others)
    ∙ beside_sends known number text Close
all_sends known number text (Net (response_message response)) = no_messages_in_response known.gets response response.answered text
all_sends known number text (Net (ResponseFinal rid)) = no_messages_in_final rid (final_outcome Network (get_at rid known.gets))
all_sends known number text e = beside_sends known number text e

pub all_messages : (w : World) (e : Event) → messages_of (effects_of w e) ≡ told_by_event (known_at w) (number_for w e) (text_for w e) e
all_messages w e = all_sends (known_at w) (number_for w e) (text_for w e) e

pub behind_both : (xs ys before : List Message) → sent_behind (xs ++ ys) before ≡ sent_behind ys (sent_behind xs before)
behind_both [] ys before = refl
behind_both (x ∷ xs) ys before = behind_both xs ys (x ∷ before)

-- nor is what listeners make of an event
no_messages_in_listener_ends : (rows : List ListenerRow) → messages_of (listener_ends rows) ≡ []
no_messages_in_listener_ends [] = refl
no_messages_in_listener_ends (row ∷ rows) = no_messages_in_listener_ends rows

no_messages_in_statuses : (after : ListenerRow → Bool) (rows : List ListenerRow) → messages_of (map (λ (row : ListenerRow). Matching row.id (after row)) rows) ≡ []
no_messages_in_statuses after [] = refl
no_messages_in_statuses after (row ∷ rows) = no_messages_in_statuses after rows

heard_messages : (w v : World) (fx : List Effect) → messages_of (fx ++ listener_effects_at w v) ≡ messages_of fx
heard_messages w v fx =
    let ended = filter (λ (row : ListenerRow). not (is_listener row.id v.matching.listeners)) w.matching.listeners in
    let before : ListenerRow → Bool = λ row. is_listener row.id w.matching.listeners && status (present_at w) row in
    let after : ListenerRow → Bool = status (present_at v) in
    let hearing = filter (λ (row : ListenerRow). differ (before row) (after row)) v.matching.listeners in
    messages_append fx (listener_effects_at w v)
    ∙ ap (λ (ms : List Message). messages_of fx ++ ms) (silent (listener_ends ended) (turned before after v.matching.listeners) (no_messages_in_listener_ends ended) ∙ no_messages_in_statuses after hearing)
    ∙ append-nil (messages_of fx)

-- so the messages of an event are those of the decision that listeners have not heard of yet
pub same_messages : (s : Settings) (w : World) (past : List Entry) (e : Event) → AreStanding s w past → messages_of (decision w e).turn.effects ≡ messages_of (turn_of s past e).effects
same_messages s w past e st =
    sym (heard_messages w (with_change (decision w e).change w) (decision w e).turn.effects) ∙ ap (λ (t : Turn). messages_of t.effects) (same_turn s w past e st)
