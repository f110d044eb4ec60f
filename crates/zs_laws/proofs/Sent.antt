-- Each message that an event sends is of one of five sorts, whatever the event: what holds of each sort holds of all messages.
use Rattle.std.proofs.Common.{◌≡◌, ℕ, List, [], ◌∷◌, ◌++◌, Bool, true, false, Option, Some, None, refl, sym, ◌∙◌, ap, subst, map}
use Rattle.std.specs.Prelude.{nat_le, is_some, filter, not, ◌&&◌, if◌then◌else◌}
use Rattle.std.specs.List.{AllByRecursion}
use mathlib.Core.List.{append-nil}
use Rattle.zs_keys.specs.declared.declaration.Declared.{Declared}
use Rattle.zs_wire.specs.declared.body.Body.{Body}
use Rattle.zs_wire.specs.declared.body.Value.{Value}
use Rattle.zs_wire.specs.declared.message.Message.{Message}
use Rattle.zs_wire.specs.declared.message.Message.TheVariants.{DeclareKeyExpr, UndeclareKeyExpr, UndeclareToken, Request as request_message, Response as response_message, ResponseFinal, Close as close_message}
use Rattle.zs_wire.specs.declared.response.Answered.TheVariants.{Reply, Err as Error}
use Rattle.zs_wire.specs.declared.response.Response.{Response}
use Rattle.zs_wire.specs.declared.wire_expr.WireExpr.{WireExpr}
use Rattle.zs_query.specs.Types.{QueryValue, Finished, Unknown, MoreLeft, Last}
use Rattle.zs_query.specs.declared.open_get.OpenGet.{OpenGet}
use Rattle.zs_query.specs.declared.side.Side.TheVariants.{Local}
use Rattle.zs_query.specs.Unfinished.{value_at, finished}
use Rattle.zs_query.specs.Gets.{get_at, peek_at, final_outcome}
use Rattle.zs_tables.specs.Types.{GroupKind, Subscribers, Publishers}
use Rattle.zs_tables.specs.declared.listener.ListenerRow.{ListenerRow}
use Rattle.zs_tables.specs.MatchingLaws.{differ}
use Rattle.zs_events.specs.declared.event.Event.{Event}
use Rattle.zs_events.specs.declared.event.Event.TheVariants.{Key, UndeclareKey, Undeclare, Close, Net, Get, QuerierGet, Reply as reply_event, ReplyErr, Finish}
use Rattle.zs_events.specs.declared.entity_kind.EntityKind.TheVariants.{Sub as sub_kind}
use Rattle.zs_events.specs.declared.key_arg.KeyArg.{KeyArg}
use Rattle.zs_events.specs.declared.key_arg.KeyArg.TheVariants.{Text, Number, Declared as declared_text}
use Rattle.zs_events.specs.declared.publication.Content.{Content}
use Rattle.zs_events.specs.declared.publication.ReplyQuality.{ReplyQuality}
use Rattle.zs_events.specs.declared.turn.Effect.{Effect}
use Rattle.zs_events.specs.declared.turn.Effect.TheVariants.{Send, Matching}
use Rattle.zs_events.specs.declared.turn.Refusal.{Refusal}
use Rattle.zs_events.specs.Turn.{answered}
use Rattle.zs_events.specs.Kinds.{NamedKey, OwnKey, QuerierKey, Publishes, NoContent, OwnContent, ByPublisher, Question, ToGets, NoGet, Asks, AsksBy, Answers, EndsSide, Reaches, EndsQuerier, Cancels, EndsAll, AnswersError, ToLiveliness, EndsToken, row_of}
use Rattle.zs_model.specs.declared.settings.Settings.{Settings}
use Rattle.zs_model.specs.Entry.{Entry, is_closed}
use Rattle.zs_model.specs.HeldKeys.{named_text}
use Rattle.zs_model.specs.Live.{live_listeners}
use Rattle.zs_model.specs.Listeners.{is_listener, listener_ends}
use Rattle.zs_model.specs.Matching.{is_matched, turned, listener_effects}
use Rattle.zs_model.specs.Causes.{refusal_of}
use Rattle.zs_model.specs.Past.{past_of, entry_of}
use Rattle.zs_model.specs.Publishers.{resolved}
use Rattle.zs_model.specs.Questions.{request_of}
use Rattle.zs_model.specs.GetEffects.{request_effects, final_effects}
use Rattle.zs_model.specs.Answers.{quality_of, local_reply, local_error, response_by}
use Rattle.zs_model.specs.ValueEffects.{Answering, requested_effects, replied_effects, error_effects, answer_effects, answer_error_effects, finish_effects}
use Rattle.zs_model.specs.Groups.{declaration_by}
use Rattle.zs_model.specs.Sends.{OwnKeys, full_wire, wire_form, group_wire, declared_by, declaration_of, key_sends, return_sends, is_sent, push_with, publication_sends, sends_of}
use Rattle.zs_model.specs.Effects.{Known, known_of, to_gets_for, draws_of, answering, key_wire, entity_sends, effects_on, effects_behind, effects}
use Rattle.zs_model.specs.Received.{messages_of, wire_in}
use Rattle.zs_laws.proofs.SentMessages.{messages_append, silent, no_messages_in_reply, no_messages_in_final, no_messages_in_queries, no_messages_in_error, told_beside, told_by_event, all_sends}
use Rattle.zs_laws.proofs.Reading.{request_cases, is_error}
use Rattle.zs_query.proofs.Ascending.{all_append}
use Rattle.zs_laws.specs.Origins.{push_in}
use Rattle.zs_laws.proofs.Sends.{Announced, ASubscriber, APublisher, announcement, announced_wire, Retracted, OfSubscriber, retraction, announced, retracted, entity_cases}

-- whether an event ends a token, whose key may not be looked at
abbrev pub ends_token : ToLiveliness → Bool
ends_token (EndsToken id interest) = true
ends_token to = false

-- whether the messages of an event name its own key
abbrev pub names_own : Event → Bool
names_own e = not (ends_token (row_of e).to_liveliness) && not (is_error (row_of e).to_values)

-- what holds of each sort of messages: those without a key, those that have the form of the event's key, the declaration of a group, a
-- push, and an error
pub record Sending (known : Known) (e : Event) (text : Option (List ℕ)) (P : Message → Type 0) : Type 0 where
  pub bare : (m : Message) → push_in m ≡ None → wire_in m ≡ None → P m
  pub formed : (t : List ℕ) (d : Option Declared) (m : Message) → names_own e ≡ true → text ≡ Some t → push_in m ≡ None → wire_in m ≡ Some (wire_form known.keys t d) → P m
  pub grouped : (kind : GroupKind) (id : ℕ) (t : List ℕ) (d : Option Declared) → names_own e ≡ true → text ≡ Some t
      → P (declaration_by kind id (group_wire (known.company kind).aggregates t (wire_form known.keys t d)))
  pub pushed : (t : List ℕ) (c : Content) → names_own e ≡ true → text ≡ Some t → resolved known.pubs (row_of e).publishes ≡ OwnContent c → is_sent c ≡ true
      → P (push_with (wire_form known.keys t (declaration_of known.keys t (row_of e).key)) c)
  pub erring : (value : ℕ) (error : Value) (v : QueryValue) → (row_of e).to_values ≡ AnswersError value error → value_at value known.handing.values ≡ Some v
      → P (response_message (response_by known.zid v.queryable v.row.rid (full_wire v.row.key.text) v.row.qos (Error error)))

keys_all : (P : Message → Type 0) (k : OwnKeys) (number : Option ℕ) (text : Option (List ℕ)) → ((n : ℕ) (t : List ℕ) → text ≡ Some t → P (DeclareKeyExpr n (full_wire t)))
    → AllByRecursion P (messages_of (key_sends k number text))
keys_all P k number None at = tt
keys_all P k None (Some text) at = tt
keys_all P k (Some number) (Some text) at = go (is_some (k.number_of text))
  where
    go : (b : Bool) → AllByRecursion P (messages_of (if b then [] else Send (DeclareKeyExpr number (full_wire text)) ∷ []))
    go true = tt
    go false = (at number text refl, tt)

return_all : (P : Message → Type 0) (k : OwnKeys) (n : ℕ) → P (UndeclareKeyExpr n) → AllByRecursion P (messages_of (return_sends k n))
return_all P k n holds = go (nat_le (k.count_of n) 1)
  where
    go : (b : Bool) → AllByRecursion P (messages_of (if b then Send (UndeclareKeyExpr n) ∷ [] else []))
    go true = (holds, tt)
    go false = tt

push_all : (P : Message → Type 0) (k : OwnKeys) (key : NamedKey) (text : Option (List ℕ)) (p : Publishes)
    → ((t : List ℕ) (c : Content) → text ≡ Some t → p ≡ OwnContent c → is_sent c ≡ true → P (push_with (wire_form k t (declaration_of k t key)) c))
    → AllByRecursion P (messages_of (publication_sends k key text p))
push_all P k key text NoContent at = tt
push_all P k key None (OwnContent c) at = tt
push_all P k key None (ByPublisher id c) at = tt
push_all P k key (Some text) (ByPublisher id c) at = tt
push_all P k key (Some text) (OwnContent c) at = go (is_sent c) refl
  where
    go : (b : Bool) → is_sent c ≡ b → AllByRecursion P (messages_of (if b then Send (push_with (wire_form k text (declaration_of k text key)) c) ∷ [] else []))
    go true sent = (at text c refl refl sent, tt)
    go false sent = tt

sends_all : (P : Message → Type 0) (known : Known) (number : Option ℕ) (text : Option (List ℕ)) (e : Event) → Sending known e text P
    → AllByRecursion P (messages_of (sends_of known.keys known.pubs number text e))
sends_all P known number text (Key key) by = keys_all P known.keys number text (λ n t is. by.formed t None (DeclareKeyExpr n (full_wire t)) refl is refl refl)
sends_all P known number text (UndeclareKey (Text whole)) by = tt
sends_all P known number text (UndeclareKey (Number n suffix)) by = return_all P known.keys n (by.bare (UndeclareKeyExpr n) refl refl)
sends_all P known number text (UndeclareKey (declared_text whole n prefix_len)) by = return_all P known.keys n (by.bare (UndeclareKeyExpr n) refl refl)
sends_all P known number text Close by = (by.bare close_message refl refl, tt)
sends_all P known number text (ReplyErr value error) by = tt
sends_all P known number text (Net (UndeclareToken id wire interest)) by = tt
sends_all P known number text (Net (response_message response)) by = tt
sends_all P known number text e by =
    push_all P known.keys (row_of e).key text (resolved known.pubs (row_of e).publishes) (λ t c is published sent. by.pushed t c refl is published sent)

-- an event that announces something names its own key
announced_own : (e : Event) (what : Announced) → announced e ≡ Some what → names_own e ≡ true
announced_own Close what is = cc
announced_own e what is = cc

entity_all : (P : Message → Type 0) (known : Known) (number : Option ℕ) (text : Option (List ℕ)) (e : Event) → Sending known e text P
    → AllByRecursion P (messages_of (entity_sends known e number text))
entity_all P known number text e by = entity_cases (λ fx. AllByRecursion P (messages_of fx)) tt known e number text begun ended
  where
    begun : (what : Announced) (id : ℕ) (t : List ℕ) (key : KeyArg) → announced e ≡ Some what → text ≡ Some t → AllByRecursion P (announcement what id (announced_wire known what t key) ∷ [])
    begun ASubscriber id t key is named = (by.grouped Subscribers id t (declared_by known.keys t key) (announced_own e ASubscriber is) named, tt)
    begun APublisher id t key is named = (by.grouped Publishers id t (declared_by known.keys t key) (announced_own e APublisher is) named, tt)
    begun what id t key is named = (by.formed t (declared_by known.keys t key) (announcement what id (key_wire known.keys t key)) (announced_own e what is) named refl refl, tt)

    ended : (what : Retracted) (id : ℕ) → retracted e ≡ Some what → AllByRecursion P (retraction what id ∷ [])
    ended OfSubscriber id is = (by.bare (retraction OfSubscriber id) refl refl, tt)
    ended what id is = (by.bare (retraction what id) refl refl, tt)

beside_all : (P : Message → Type 0) (known : Known) (number : Option ℕ) (text : Option (List ℕ)) (e : Event) → Sending known e text P → AllByRecursion P (told_beside known number text e)
beside_all P known number text e by =
    all_append P (messages_of (sends_of known.keys known.pubs number text e)) (messages_of (entity_sends known e number text))
    (sends_all P known number text e by) (entity_all P known number text e by)

-- a request
asked_all : (P : Message → Type 0) (default : ℕ) (k : OwnKeys) (key : NamedKey) (values : List QueryValue) (number : Option ℕ) (text : Option (List ℕ)) (to : ToGets)
    → ((n : ℕ) (t : List ℕ) (q : Question) → text ≡ Some t → P (request_message (request_of default (wire_form k t (declaration_of k t key)) n q)))
    → AllByRecursion P (messages_of (request_effects default k key values number text to))
asked_all P default k key values (Some number) (Some text) (Asks q) at =
    request_cases (AllByRecursion P) tt default (wire_form k text (declaration_of k text key)) number q values (at number text q refl, tt)
asked_all P default k key values (Some number) None (Asks q) at = tt
asked_all P default k key values None text (Asks q) at = tt
asked_all P default k key values number text NoGet at = tt
asked_all P default k key values number text (AsksBy id q) at = tt
asked_all P default k key values number text (Answers response) at = tt
asked_all P default k key values number text (EndsSide rid) at = tt
asked_all P default k key values number text (Reaches moment) at = tt
asked_all P default k key values number text (EndsQuerier id) at = tt
asked_all P default k key values number text (Cancels token) at = tt
asked_all P default k key values number text EndsAll at = tt

-- what is answered
requested_all : (P : Message → Type 0) (rid : ℕ) (drawn : List QueryValue) → P (ResponseFinal rid) → AllByRecursion P (messages_of (requested_effects rid drawn))
requested_all P rid [] holds = (holds, tt)
requested_all P rid (v ∷ drawn) holds = subst (AllByRecursion P) (sym (no_messages_in_queries (v ∷ drawn))) tt

reply_all : (P : Message → Type 0) (a : Answering) (key : NamedKey) (o : Option QueryValue) (quality : ReplyQuality) (body : Body) (text : Option (List ℕ))
    → ((t : List ℕ) (r : Response) → text ≡ Some t → r.wire ≡ wire_form a.keys t (declaration_of a.keys t key) → P (response_message r))
    → AllByRecursion P (messages_of (answer_effects a key o quality body text))
reply_all P a key None quality body text at = tt
reply_all P a key (Some v) quality body None at = tt
reply_all P a key (Some v) quality body (Some text) at = go v.row.local
  where
    response : Response
    response = response_by a.zid v.queryable v.row.rid (wire_form a.keys text (declaration_of a.keys text key)) (quality_of quality v.row.qos) (Reply body)

    go : (b : Bool) → AllByRecursion P (messages_of (if b then replied_effects a.gets v.row.rid (local_reply a.zid v.queryable v.row quality body text) else Send (response_message response) ∷ []))
    go true =
        subst (AllByRecursion P)
        (sym (no_messages_in_reply (peek_at (get_at v.row.rid a.gets) (local_reply a.zid v.queryable v.row quality body text)) v.row.rid (local_reply a.zid v.queryable v.row quality body text))) tt
    go false = (at text response refl refl, tt)

error_all : (P : Message → Type 0) (a : Answering) (o : Option QueryValue) (error : Value)
    → ((v : QueryValue) → o ≡ Some v → P (response_message (response_by a.zid v.queryable v.row.rid (full_wire v.row.key.text) v.row.qos (Error error))))
    → AllByRecursion P (messages_of (answer_error_effects a o error))
error_all P a None error at = tt
error_all P a (Some v) error at = go v.row.local
  where
    go : (b : Bool) → AllByRecursion P (messages_of (if b then error_effects (get_at v.row.rid a.gets) v.row.rid (local_error a.zid v.queryable error)
        else Send (response_message (response_by a.zid v.queryable v.row.rid (full_wire v.row.key.text) v.row.qos (Error error))) ∷ []))
    go true = subst (AllByRecursion P) (sym (no_messages_in_error (get_at v.row.rid a.gets) v.row.rid (local_error a.zid v.queryable error))) tt
    go false = (at v refl, tt)

finish_all : (P : Message → Type 0) (gets : List OpenGet) (f : Finished) → ((rid : ℕ) → P (ResponseFinal rid)) → AllByRecursion P (messages_of (finish_effects gets f))
finish_all P gets Unknown at = tt
finish_all P gets MoreLeft at = tt
finish_all P gets (Last row) at = go row.local
  where
    go : (b : Bool) → AllByRecursion P (messages_of (if b then final_effects row.rid (final_outcome Local (get_at row.rid gets)) else Send (ResponseFinal row.rid) ∷ []))
    go true = subst (AllByRecursion P) (sym (no_messages_in_final row.rid (final_outcome Local (get_at row.rid gets)))) tt
    go false = (at row.rid, tt)

-- all that an event sends
pub told_all : (P : Message → Type 0) (known : Known) (number : Option ℕ) (text : Option (List ℕ)) (e : Event) → Sending known e text P → AllByRecursion P (told_by_event known number text e)
told_all P known number text (Get key settings inquiry to) by =
    subst (AllByRecursion P) (sym (append-nil _))
    (asked_all P known.timeout known.keys (OwnKey key) _ number text (to_gets_for known (Get key settings inquiry to))
    (λ n t q is. by.formed t (declaration_of known.keys t (OwnKey key)) (request_message (request_of known.timeout (wire_form known.keys t (declaration_of known.keys t (OwnKey key))) n q)) refl is refl refl))
told_all P known number text (QuerierGet id inquiry to) by =
    subst (AllByRecursion P) (sym (append-nil _))
    (asked_all P known.timeout known.keys (QuerierKey id) _ number text (to_gets_for known (QuerierGet id inquiry to))
    (λ n t q is. by.formed t (declaration_of known.keys t (QuerierKey id)) (request_message (request_of known.timeout (wire_form known.keys t (declaration_of known.keys t (QuerierKey id))) n q)) refl is refl refl))
told_all P known number text (reply_event value key update quality) by =
    subst (AllByRecursion P) (sym (append-nil _))
    (reply_all P (answering known) (OwnKey key) (value_at value known.handing.values) quality _ text
    (λ t r is wire. by.formed t (declaration_of known.keys t (OwnKey key)) (response_message r) refl is refl (ap (λ (w : WireExpr). Some w) wire)))
told_all P known number text (ReplyErr value error) by =
    subst (AllByRecursion P) (sym (append-nil _))
    (error_all P (answering known) (value_at value known.handing.values) _ (λ v found. by.erring value _ v refl found))
told_all P known number text (Finish value) by =
    subst (AllByRecursion P) (sym (append-nil _))
    (finish_all P known.gets (finished (value_at value known.handing.values) known.handing.values) (λ rid. by.bare (ResponseFinal rid) refl refl))
told_all P known number text (Net (request_message request)) by =
    subst (AllByRecursion P) (sym (append-nil _)) (requested_all P request.rid (draws_of known number text (Net (request_message request))) (by.bare (ResponseFinal request.rid) refl refl))
told_all P known number text (Undeclare sub_kind id) by = beside_all P known number text (Undeclare sub_kind id) by
told_all P known number text e by = beside_all P known number text e by

-- listeners hear no message
no_messages_in_listener_ends : (rows : List ListenerRow) → messages_of (listener_ends rows) ≡ []
no_messages_in_listener_ends [] = refl
no_messages_in_listener_ends (row ∷ rows) = no_messages_in_listener_ends rows

no_messages_in_statuses : (after : ListenerRow → Bool) (rows : List ListenerRow) → messages_of (map (λ (row : ListenerRow). Matching row.id (after row)) rows) ≡ []
no_messages_in_statuses after [] = refl
no_messages_in_statuses after (row ∷ rows) = no_messages_in_statuses after rows

heard_messages : (fx : List Effect) (past : List Entry) (x : Entry) → messages_of (fx ++ listener_effects past x) ≡ messages_of fx
heard_messages fx past x =
    let ended = filter (λ (row : ListenerRow). not (is_listener row.id (live_listeners (x ∷ past)))) (live_listeners past) in
    let before : ListenerRow → Bool = λ row. is_listener row.id (live_listeners past) && is_matched past row in
    let after : ListenerRow → Bool = is_matched (x ∷ past) in
    let hearing = filter (λ (row : ListenerRow). differ (before row) (after row)) (live_listeners (x ∷ past)) in
    messages_append fx (listener_effects past x)
    ∙ ap (λ (ms : List Message). messages_of fx ++ ms)
    (silent (listener_ends ended) (turned before after (live_listeners (x ∷ past))) (no_messages_in_listener_ends ended) ∙ no_messages_in_statuses after hearing)
    ∙ append-nil (messages_of fx)

-- the messages of an accepted event
pub messages_are : (s : Settings) (past : List Entry) (e : Event) → messages_of (effects_behind s past e) ≡ told_by_event (known_of s past) (entry_of s past e).number (named_text past e) e
messages_are s past e =
    heard_messages (effects_on (known_of s past) (entry_of s past e).number (named_text past e) e) past (entry_of s past e)
    ∙ all_sends (known_of s past) (entry_of s past e).number (named_text past e) e

-- the messages of an event are none, or those of an accepted one
pub by_accepting : (P : List Message → Type 0) (s : Settings) (h : List Event) (e : Event) → P []
    → (is_closed (past_of s h) ≡ false → refusal_of s (past_of s h) e ≡ None
    → P (told_by_event (known_of s (past_of s h)) (entry_of s (past_of s h) e).number (named_text (past_of s h) e) e))
    → P (messages_of (effects s h e).effects)
by_accepting P s h e none on = go (is_closed (past_of s h)) refl (refusal_of s (past_of s h) e) refl
  where
    go : (b : Bool) → is_closed (past_of s h) ≡ b → (o : Option Refusal) → refusal_of s (past_of s h) e ≡ o
        → P (messages_of (if b then answered o None [] else answered o (entry_of s (past_of s h) e).number (effects_behind s (past_of s h) e)).effects)
    go true shut (Some refusal) refused = none
    go true shut None refused = none
    go false shut (Some refusal) refused = none
    go false shut None refused = subst P (sym (messages_are s (past_of s h) e)) (on shut refused)
