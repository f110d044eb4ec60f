-- Which events send the final of a request from the network, and how often a request ends.
use Rattle.std.proofs.Common.{◌≡◌, ℕ, List, [], ◌∷◌, ◌++◌, Bool, true, false, Option, Some, None, refl, sym, ◌∙◌, ap, append-nil}
use Rattle.std.specs.Prelude.{◌||◌, is_some, if◌then◌else◌}
use Rattle.zs_wire.specs.declared.message.Message.{Message}
use Rattle.zs_wire.specs.declared.message.Message.TheVariants.{Request as request_message, Response as response_message, ResponseFinal}
use Rattle.zs_wire.specs.declared.wire_expr.WireExpr.{WireExpr}
use Rattle.zs_wire.specs.declared.response.Answered.TheVariants.{Reply, Err as Error}
use Rattle.zs_wire.specs.declared.request.Request.{Request}
use Rattle.zs_query.specs.Types.{QueryValue, Finished, Unknown, MoreLeft, Last}
use Rattle.zs_query.specs.declared.side.Side.TheVariants.{Local}
use Rattle.zs_query.specs.Gets.{get_at, peek_at, final_outcome}
use Rattle.zs_query.specs.Unfinished.{value_at, values_from, finished}
use Rattle.zs_events.specs.declared.event.Event.{Event}
use Rattle.zs_events.specs.declared.event.Event.TheVariants.{Net}
use Rattle.zs_events.specs.declared.turn.Effect.TheVariants.{Send}
use Rattle.zs_events.specs.declared.turn.Refusal.{Refusal}
use Rattle.zs_events.specs.Kinds.{NamedKey, ToGets, NoGet, Asks, AsksBy, Answers, EndsSide, Reaches, EndsQuerier, Cancels, EndsAll, ToValues, NoValue, Requested, AnswersBy, AnswersError, SharesValue, GivesBack, message_row, row_of}
use Rattle.zs_model.specs.declared.settings.Settings.{Settings}
use Rattle.zs_world.specs.declared.change.Change.TheVariants.{Nothing}
use Rattle.zs_events.specs.Turn.{answered}
use Rattle.zs_model.specs.declared.publisher.PubRow.{PubRow}
use Rattle.zs_world.specs.World.{World}
use Rattle.zs_model.specs.Past.{past_of}
use Rattle.zs_model.specs.Values.{met_by, network_request}
use Rattle.zs_model.specs.Sends.{OwnKeys, wire_form, full_wire, declaration_of, sends_of}
use Rattle.zs_model.specs.Effects.{to_gets_for, draws_of, answering, entity_sends, effects}
use Rattle.zs_model.specs.GetEffects.{request_effects, final_effects}
use Rattle.zs_model.specs.ValueEffects.{value_effects, requested_effects, finish_effects, replied_effects, error_effects, answer_effects, answer_error_effects}
use Rattle.zs_model.specs.Answers.{local_reply, local_error, response_by, quality_of}
use Rattle.zs_model.specs.Received.{messages_of}
use Rattle.zs_model.specs.Finals.{finals_among, unmet_final, last_final, finals_by, finals_due}
use Rattle.zs_world.specs.Decisions.{known_at, own_keys_at, text_for, number_for, effects_of, cause, closed_cause, open_cause, decision_of, open_decision, decision}
use Rattle.zs_standing.specs.Stands.{world_after}
use Rattle.zs_standing.proofs.Stands.{standing, same_text, same_cause}
use Rattle.zs_laws.proofs.SentMessages.{same_messages, no_messages_in_queries, no_messages_in_reply, no_messages_in_error, no_messages_in_final, told_beside, asked_by, answered_by, told_by_event, all_messages}
use Rattle.zs_laws.proofs.Reading.{request_cases}
use Rattle.zs_laws.proofs.Sends.{Announced, ASubscriber, announcement, announced_wire, Retracted, OfSubscriber, retraction, entity_cases, sends_cases}

-- finals of two lists of messages
finals_append : (xs ys : List Message) → finals_among (xs ++ ys) ≡ finals_among xs ++ finals_among ys
finals_append [] ys = refl
finals_append (ResponseFinal rid ∷ xs) ys = ap (λ (ids : List ℕ). rid ∷ ids) (finals_append xs ys)
finals_append (x ∷ xs) ys = finals_append xs ys

-- a get sends none
none_asked : (default : ℕ) (k : OwnKeys) (key : NamedKey) (values : List QueryValue) (number : Option ℕ) (text : Option (List ℕ)) (to : ToGets)
    → finals_among (messages_of (request_effects default k key values number text to)) ≡ []
none_asked default k key values (Some number) (Some text) (Asks q) =
    request_cases (λ (ms : List Message). finals_among ms ≡ []) refl default (wire_form k text (declaration_of k text key)) number q values refl
none_asked default k key values None text (Asks q) = refl
none_asked default k key values (Some number) None (Asks q) = refl
none_asked default k key values number text NoGet = refl
none_asked default k key values number text (AsksBy id q) = refl
none_asked default k key values number text (EndsQuerier id) = refl
none_asked default k key values number text (Cancels token) = refl
none_asked default k key values number text (Answers response) = refl
none_asked default k key values number text (EndsSide rid) = refl
none_asked default k key values number text (Reaches moment) = refl
none_asked default k key values number text EndsAll = refl

-- neither does what is sent beside
none_sent : (k : OwnKeys) (pubs : List PubRow) (number : Option ℕ) (text : Option (List ℕ)) (e : Event) → finals_among (messages_of (sends_of k pubs number text e)) ≡ []
none_sent k pubs number text e =
    sends_cases (λ fx. finals_among (messages_of fx) ≡ []) refl k pubs number text e (λ n t drew named. refl) (λ n. refl) refl (λ t c named is sent. refl)

none_begun : (what : Announced) (id : ℕ) (wire : WireExpr) → finals_among (announcement what id wire ∷ []) ≡ []
none_begun ASubscriber id wire = refl
none_begun what id wire = refl

none_ended : (what : Retracted) (id : ℕ) → finals_among (retraction what id ∷ []) ≡ []
none_ended OfSubscriber id = refl
none_ended what id = refl

none_entity : (w : World) (number : Option ℕ) (text : Option (List ℕ)) (e : Event) → finals_among (messages_of (entity_sends (known_at w) e number text)) ≡ []
none_entity w number text e =
    entity_cases (λ fx. finals_among (messages_of fx) ≡ []) refl (known_at w) e number text (λ what id t key is named. none_begun what id (announced_wire (known_at w) what t key))
    (λ what id is. none_ended what id)

none_beside : (w : World) (number : Option ℕ) (text : Option (List ℕ)) (e : Event) → finals_among (told_beside (known_at w) number text e) ≡ []
none_beside w number text e =
    finals_append (messages_of (sends_of (own_keys_at w) w.entities.pubs number text e)) (messages_of (entity_sends (known_at w) e number text))
    ∙ (λ i. none_sent (own_keys_at w) w.entities.pubs number text e i ++ none_entity w number text e i)

-- an answer sends those that are due
abbrev is_request : ToValues → Bool
is_request (Requested request) = true
is_request to = false

due_back : (w : World) (f : Finished) → finals_among (messages_of (finish_effects w.asking.gets f)) ≡ last_final f
due_back w Unknown = refl
due_back w MoreLeft = refl
due_back w (Last row) = go row.local
  where
    go : (b : Bool) → finals_among (messages_of (if b then final_effects row.rid (final_outcome Local (get_at row.rid w.asking.gets)) else Send (ResponseFinal row.rid) ∷ []))
        ≡ (if b then [] else row.rid ∷ [])
    go true = ap finals_among (no_messages_in_final row.rid (final_outcome Local (get_at row.rid w.asking.gets)))
    go false = refl

due_reply : (w : World) (key : NamedKey) (drawn : List QueryValue) (text : Option (List ℕ)) (to : ToValues) → is_request to ≡ false
    → finals_among (messages_of (value_effects (answering (known_at w)) key drawn text to)) ≡ finals_by w.entities.queryables w.handing.values text to
due_reply w key drawn text NoValue plain = refl
due_reply w key drawn text (Requested request) plain = cc
due_reply w key drawn text (AnswersBy value body quality) plain = go (value_at value w.handing.values) text
  where
    by : (v : QueryValue) (text : List ℕ) (b : Bool)
        → finals_among (messages_of (if b then replied_effects w.asking.gets v.row.rid (local_reply w.settings.zid v.queryable v.row quality body text)
        else Send (response_message (response_by w.settings.zid v.queryable v.row.rid (wire_form (own_keys_at w) text (declaration_of (own_keys_at w) text key)) (quality_of quality v.row.qos) (Reply body))) ∷ [])) ≡ []
    by v text true = ap finals_among (no_messages_in_reply (peek_at (get_at v.row.rid w.asking.gets) (local_reply w.settings.zid v.queryable v.row quality body text)) v.row.rid (local_reply w.settings.zid v.queryable v.row quality body text))
    by v text false = refl

    go : (o : Option QueryValue) (text : Option (List ℕ)) → finals_among (messages_of (answer_effects (answering (known_at w)) key o quality body text)) ≡ []
    go None text = refl
    go (Some v) None = refl
    go (Some v) (Some text) = by v text v.row.local
due_reply w key drawn text (AnswersError value error) plain = go (value_at value w.handing.values)
  where
    by : (v : QueryValue) (b : Bool)
        → finals_among (messages_of (if b then error_effects (get_at v.row.rid w.asking.gets) v.row.rid (local_error w.settings.zid v.queryable error)
        else Send (response_message (response_by w.settings.zid v.queryable v.row.rid (full_wire v.row.key.text) v.row.qos (Error error))) ∷ [])) ≡ []
    by v true = ap finals_among (no_messages_in_error (get_at v.row.rid w.asking.gets) v.row.rid (local_error w.settings.zid v.queryable error))
    by v false = refl

    go : (o : Option QueryValue) → finals_among (messages_of (answer_error_effects (answering (known_at w)) o error)) ≡ []
    go None = refl
    go (Some v) = by v v.row.local
due_reply w key drawn text (SharesValue value) plain = refl
due_reply w key drawn text (GivesBack value) plain = due_back w (finished (value_at value w.handing.values) w.handing.values)

due_request : (w : World) (request : Request) (number : Option ℕ) (text : Option (List ℕ))
    → finals_among (answered_by (known_at w) number text (Net (request_message request))) ≡ finals_by w.entities.queryables w.handing.values text (Requested request)
due_request w request number None = refl
due_request w request number (Some text) = go (met_by w.entities.queryables NoGet (Requested request) (Some text))
  where
    drawn : List ℕ → List QueryValue
    drawn met = values_from w.handing.next w.handing.handed (network_request text request) met

    go : (met : List ℕ) → finals_among (messages_of (requested_effects request.rid (drawn met))) ≡ unmet_final request.rid met
    go [] = refl
    go (q ∷ met) = ap finals_among (no_messages_in_queries (drawn (q ∷ met)))

due_event : (w : World) (number : Option ℕ) (text : Option (List ℕ)) (e : Event)
    → finals_among (answered_by (known_at w) number text e) ≡ finals_by w.entities.queryables w.handing.values text (row_of e).to_values
due_event w number text (Net message) = by_message message
  where
    by_message : (message : Message)
        → finals_among (answered_by (known_at w) number text (Net message)) ≡ finals_by w.entities.queryables w.handing.values text (message_row message).to_values
    by_message (request_message request) = due_request w request number text
    by_message message = refl
due_event w number text e = due_reply w (row_of e).key (draws_of (known_at w) number text e) text (row_of e).to_values refl

finals_told : (w : World) (number : Option ℕ) (text : Option (List ℕ)) (e : Event)
    → finals_among (told_by_event (known_at w) number text e) ≡ finals_by w.entities.queryables w.handing.values text (row_of e).to_values
finals_told w number text e =
    let asked = asked_by (known_at w) number text e in
    let answered = answered_by (known_at w) number text e in
    let beside = told_beside (known_at w) number text e in
    finals_append asked (answered ++ beside)
    ∙ ap (λ (ids : List ℕ). ids ++ finals_among (answered ++ beside)) (none_asked w.settings.default_timeout (own_keys_at w) (row_of e).key (draws_of (known_at w) number text e) number text (to_gets_for (known_at w) e))
    ∙ finals_append answered beside
    ∙ ap (λ (ids : List ℕ). finals_among answered ++ ids) (none_beside w number text e)
    ∙ append-nil (finals_among answered)
    ∙ due_event w number text e

-- so behind each history
abbrev due_at : Bool → Option Refusal → World → Option (List ℕ) → Event → List ℕ
due_at closed refusal w text e = if is_some refusal || closed then [] else finals_by w.entities.queryables w.handing.values text (row_of e).to_values

by_tables : (w : World) (e : Event) → finals_among (messages_of (decision w e).turn.effects) ≡ due_at w.closed (cause w e) w (text_for w e) e
by_tables w e = go w.closed
  where
    shut : (o : Option Refusal) → finals_among (messages_of (answered o None []).effects) ≡ due_at true o w (text_for w e) e
    shut (Some refusal) = refl
    shut None = refl

    on : (o : Option Refusal) → finals_among (messages_of (answered o (number_for w e) (effects_of w e)).effects) ≡ due_at false o w (text_for w e) e
    on (Some refusal) = refl
    on None = ap finals_among (all_messages w e) ∙ finals_told w (number_for w e) (text_for w e) e

    go : (b : Bool) → finals_among (messages_of (if b then decision_of (closed_cause e) None [] Nothing else open_decision w e).turn.effects)
        ≡ due_at b (if b then closed_cause e else open_cause w e) w (text_for w e) e
    go true = shut (closed_cause e)
    go false = on (open_cause w e)

pub finals_are : (s : Settings) (h : List Event) (e : Event) → finals_among (messages_of (effects s h e).effects) ≡ finals_due s (past_of s h) e
finals_are s h e =
    let w = world_after s h in
    let st = standing s h in
    let refusal = same_cause s w (past_of s h) e st in
    let closed = st.known.closed in
    let text = same_text s w (past_of s h) e st in
    let rows = st.live.queryables.table in
    let handing = st.handing in
    ap finals_among (sym (same_messages s w (past_of s h) e st)) ∙ by_tables w e
    ∙ (λ i. if is_some (refusal i) || closed i then [] else finals_by (rows i) (handing i).values (text i) (row_of e).to_values)
