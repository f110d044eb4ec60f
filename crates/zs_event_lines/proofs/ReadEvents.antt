-- What a line says of an event has a line, and comes back the same.
use Rattle.std.proofs.Common.{ℕ, ◌≡◌, true, false, List, [], ◌∷◌, length, Option, Some, None, IfSome, refl, sym, ap, subst, ◌∙◌, arith, cond, codes}
use Rattle.std.specs.Str.{bytes_eq, is_utf8}
use Rattle.std.proofs.lemmas.Bool.{and_parts}
use Rattle.std.proofs.lemmas.Str.{IsUtf8-from_is_utf8}
use Rattle.zs_wire.specs.declared.message.Message.{Message}
use Rattle.zs_wire.specs.declared.sample_kind.SampleKind.{SampleKind}
use Rattle.zs_wire.specs.declared.sample_kind.SampleKind.TheVariants.{Put as put_kind, Delete as delete_kind}
use Rattle.zs_events.specs.declared.entity_kind.EntityKind.{EntityKind}
use Rattle.zs_events.specs.declared.event.Event.{Event}
use Rattle.zs_events.specs.declared.turn.Kind.{Kind}
use Rattle.zs_events.specs.declared.event.Event.TheVariants.{Key, UndeclareKey, Sub, Queryable, Token, Lsub, Listen, Status, Undeclare, Background, CancelToken, Cancel, LivelinessGet, Share, Finish, Tick, Close, Net}
use Rattle.zs_events.specs.declared.script_event.ScriptEvent.{ScriptEvent}
use Rattle.zs_events.specs.declared.script_event.ScriptEvent.TheVariants.{Core, Recv}
use Rattle.zs_events.specs.declared.update.PushBody.{PushBody}
use Rattle.zs_events.specs.declared.update.PushBody.TheVariants.{Put, Delete}
use Rattle.zs_lines.specs.Lines.{fields}
use Rattle.zs_parts.specs.Symbols.{u32_max, u64_max, entity_kind_of}
use Rattle.zs_script.specs.Plain.{has_no_line_feed}
use Rattle.zs_parts.specs.Parts.{Part, Maker, locality, key, number, push_body, own_body, channel_kind, read, form}
use Rattle.zs_grammar.specs.Grammar.{declare_of, key_parts, number_parts, sub_parts, sub_of, pub_parts, pub_made, pub_of, queryable_parts, queryable_of, querier_parts, querier_made, querier_of, token_of, lsub_parts, lsub_of, parent_parts, listen_of, status_of, undeclare_entity_of, undeclared_by, undeclare_of, background_parts, background_of, publish_parts, publish_made, publish_of, publish_by_parts, publish_by_made, publish_by_of, cancel_token_of, cancel_of, get_parts, get_made, get_of, querier_get_parts, querier_get_made, querier_get_of, liveliness_get_parts, liveliness_get_of, recv_of, reply_parts, reply_made, reply_of, reply_error_parts, reply_error_made, reply_error_of, share_of, finish_of, tick_of, close_of, message_of, net_of, core_by, event_by, event_of_fields, event_of}
use Rattle.zs_script.proofs.PlainTexts.{fields-plain}
use Rattle.zs_script.proofs.PlainSymbols.{on-map, on-then, on-any, on-choice, fields-utf8, both-texts}
use Rattle.zs_script.proofs.PlainParts.{AreTexts}
use Rattle.zs_event_lines.specs.Sayable.{says, says_body, kept}
use Rattle.zs_event_lines.specs.Slots.{Slot, slots_say, slots_are_typed, Values, slots_of, remade}
use Rattle.zs_event_lines.specs.Lines.{body_kind, message_line, net_line, line_of, gathered_event}
use Rattle.zs_event_lines.specs.Laws.{IsSayableLine, IsSayable, LinesAreSayable}
use Rattle.zs_event_lines.proofs.ReadSymbols.{weaken}
use Rattle.zs_event_lines.proofs.ReadForms.{made_of, MadeOf, are_own, form-reads}
use Rattle.zs_event_lines.proofs.ReadMessages.{by-texts, AreSaid, IsMessage, messages-said}

abbrev IsSaidIf : Option Event → Type 0
IsSaidIf o = IfSome o IsSayable

-- a form of an event, where its line is that of its values, and it comes back as what is made of those that do
event-form : (parts : List Part) (make : Maker parts Event) → are_own parts ≡ true
    → ((values : Values parts) → slots_say (slots_of parts values) ≡ true → slots_are_typed (slots_of parts values) ≡ true
    → IsSayableLine (line_of (made_of parts make values)))
    → ((values : Values parts) → gathered_event (made_of parts make values) ≡ remade parts make values)
    → (rest : List (List ℕ)) → AreTexts rest → IsSaidIf (form parts make rest)
event-form parts make own line back rest h =
    weaken (MadeOf Event parts make) IsSayable
    (λ made m. subst IsSayable m.is (line m.values m.said m.typed, back m.values ∙ (m.same ∙ sym m.is)))
    (form parts make rest) (form-reads Event parts make own rest h)

declare-said : (rest : List (List ℕ)) → AreTexts rest → IsSaidIf (declare_of rest)
unfolding kept
declare-said = event-form key_parts Key refl (λ v s t. (s, t)) (λ v. refl)

sub-said : (rest : List (List ℕ)) → AreTexts rest → IsSaidIf (sub_of rest)
unfolding kept
sub-said = event-form sub_parts Sub refl (λ v s t. (s, t)) (λ v. refl)

pub-said : (rest : List (List ℕ)) → AreTexts rest → IsSaidIf (pub_of rest)
unfolding kept
pub-said = event-form pub_parts pub_made refl (λ v s t. (s, t)) (λ v. refl)

queryable-said : (rest : List (List ℕ)) → AreTexts rest → IsSaidIf (queryable_of rest)
unfolding kept
queryable-said = event-form queryable_parts Queryable refl (λ v s t. (s, t)) (λ v. refl)

querier-said : (rest : List (List ℕ)) → AreTexts rest → IsSaidIf (querier_of rest)
unfolding kept
querier-said = event-form querier_parts querier_made refl (λ v s t. (s, t)) (λ v. refl)

token-said : (rest : List (List ℕ)) → AreTexts rest → IsSaidIf (token_of rest)
unfolding kept
token-said = event-form key_parts Token refl (λ v s t. (s, t)) (λ v. refl)

lsub-said : (rest : List (List ℕ)) → AreTexts rest → IsSaidIf (lsub_of rest)
unfolding kept
lsub-said = event-form lsub_parts Lsub refl (λ v s t. (s, t)) (λ v. refl)

listen-said : (rest : List (List ℕ)) → AreTexts rest → IsSaidIf (listen_of rest)
unfolding kept
listen-said = event-form parent_parts Listen refl (λ v s t. (s, t)) (λ v. refl)

status-said : (rest : List (List ℕ)) → AreTexts rest → IsSaidIf (status_of rest)
unfolding kept
status-said = event-form parent_parts Status refl (λ v s t. (s, t)) (λ v. refl)

undeclare-kind-said : (kind : EntityKind) (rest : List (List ℕ)) → AreTexts rest → IsSaidIf (form (number_parts u32_max) (Undeclare kind) rest)
unfolding kept
undeclare-kind-said kind = event-form (number_parts u32_max) (Undeclare kind) refl (λ v s t. (s, t)) (λ v. refl)

undeclare-entity-said : (word : List ℕ) (rest : List (List ℕ)) → AreTexts rest → IsSaidIf (undeclare_entity_of word rest)
undeclare-entity-said word rest h =
    on-then {A = EntityKind} {B = Event} (λ kind. form (number_parts u32_max) (Undeclare kind) rest) (λ _. Unit {0}) IsSayable
    (λ kind _. undeclare-kind-said kind rest h) (entity_kind_of word) (on-any _)

undeclare-key-said : (rest : List (List ℕ)) → AreTexts rest → IsSaidIf (form key_parts UndeclareKey rest)
unfolding kept
undeclare-key-said = event-form key_parts UndeclareKey refl (λ v s t. (s, t)) (λ v. refl)

undeclared-said : (word : List ℕ) (rest : List (List ℕ)) → AreTexts rest → IsSaidIf (undeclared_by word rest)
undeclared-said word rest h =
    on-choice (bytes_eq word (codes "key")) IsSayable _ _ (undeclare-key-said rest h) (undeclare-entity-said word rest h)

undeclare-said : (rest : List (List ℕ)) → AreTexts rest → IsSaidIf (undeclare_of rest)
unfolding undeclare_of
undeclare-said rest h = by-texts IsSayable undeclared_by undeclared-said rest h

background-said : (rest : List (List ℕ)) → AreTexts rest → IsSaidIf (background_of rest)
unfolding kept
background-said = event-form background_parts Background refl (λ v s t. (s, t)) (λ v. refl)

-- updates: the kind of what is put or deleted
kind-is : (kind : SampleKind) (what : PushBody) → says_body kind what ≡ true → body_kind what ≡ kind
kind-is put_kind (Put bytes text) h = refl
kind-is put_kind Delete h = cc
kind-is delete_kind (Put bytes text) h = cc
kind-is delete_kind Delete h = refl

publish-line : (kind : SampleKind) (v : Values (publish_parts kind)) → slots_say (slots_of (publish_parts kind) v) ≡ true
    → slots_are_typed (slots_of (publish_parts kind) v) ≡ true → IsSayableLine (line_of (made_of (publish_parts kind) (publish_made kind) v))
unfolding says
publish-line kind (where_to, (k, (what, rest))) s t =
    let first = and_parts (says locality where_to) _ s in
    let second = and_parts (says key k) _ first.1 in
    let third = and_parts (says (own_body kind) what) _ second.1 in
    subst (λ c. (slots_say (slots_of (publish_parts c) (where_to, (k, (what, rest)))) ≡ true)
    × (slots_are_typed (slots_of (publish_parts c) (where_to, (k, (what, rest)))) ≡ true)) (sym (kind-is kind what third.0)) (s, t)

publish-said : (kind : SampleKind) (rest : List (List ℕ)) → AreTexts rest → IsSaidIf (publish_of kind rest)
unfolding kept
publish-said kind = event-form (publish_parts kind) (publish_made kind) refl (publish-line kind) (λ v. refl)

publish-by-line : (kind : SampleKind) (v : Values (publish_by_parts kind)) → slots_say (slots_of (publish_by_parts kind) v) ≡ true
    → slots_are_typed (slots_of (publish_by_parts kind) v) ≡ true → IsSayableLine (line_of (made_of (publish_by_parts kind) (publish_by_made kind) v))
unfolding says
publish-by-line kind (n, (what, rest)) s t =
    let first = and_parts (says (number u32_max) n) _ s in
    let second = and_parts (says (push_body kind) what) _ first.1 in
    subst (λ c. (slots_say (slots_of (publish_by_parts c) (n, (what, rest))) ≡ true)
    × (slots_are_typed (slots_of (publish_by_parts c) (n, (what, rest))) ≡ true)) (sym (kind-is kind what second.0)) (s, t)

publish-by-said : (kind : SampleKind) (rest : List (List ℕ)) → AreTexts rest → IsSaidIf (publish_by_of kind rest)
unfolding kept
publish-by-said kind = event-form (publish_by_parts kind) (publish_by_made kind) refl (publish-by-line kind) (λ v. refl)

reply-line : (kind : SampleKind) (v : Values (reply_parts kind)) → slots_say (slots_of (reply_parts kind) v) ≡ true
    → slots_are_typed (slots_of (reply_parts kind) v) ≡ true → IsSayableLine (line_of (made_of (reply_parts kind) (reply_made kind) v))
unfolding says
reply-line kind (n, (k, (what, rest))) s t =
    let first = and_parts (says (number u32_max) n) _ s in
    let second = and_parts (says key k) _ first.1 in
    let third = and_parts (says (own_body kind) what) _ second.1 in
    subst (λ c. (slots_say (slots_of (reply_parts c) (n, (k, (what, rest)))) ≡ true)
    × (slots_are_typed (slots_of (reply_parts c) (n, (k, (what, rest)))) ≡ true)) (sym (kind-is kind what third.0)) (s, t)

reply-said : (kind : SampleKind) (rest : List (List ℕ)) → AreTexts rest → IsSaidIf (reply_of kind rest)
unfolding kept
reply-said kind = event-form (reply_parts kind) (reply_made kind) refl (reply-line kind) (λ v. refl)

reply-error-said : (rest : List (List ℕ)) → AreTexts rest → IsSaidIf (reply_error_of rest)
unfolding kept
reply-error-said = event-form reply_error_parts reply_error_made refl (λ v s t. (s, t)) (λ v. refl)

cancel-token-said : (rest : List (List ℕ)) → AreTexts rest → IsSaidIf (cancel_token_of rest)
cancel-token-said = event-form [] CancelToken refl (λ v s t. (refl, refl)) (λ v. refl)

cancel-said : (rest : List (List ℕ)) → AreTexts rest → IsSaidIf (cancel_of rest)
unfolding kept
cancel-said = event-form (number_parts u32_max) Cancel refl (λ v s t. (s, t)) (λ v. refl)

get-said : (rest : List (List ℕ)) → AreTexts rest → IsSaidIf (get_of rest)
unfolding kept
get-said = event-form get_parts get_made refl (λ v s t. (s, t)) (λ v. refl)

querier-get-said : (rest : List (List ℕ)) → AreTexts rest → IsSaidIf (querier_get_of rest)
unfolding kept
querier-get-said = event-form querier_get_parts querier_get_made refl (λ v s t. (s, t)) (λ v. refl)

liveliness-get-said : (rest : List (List ℕ)) → AreTexts rest → IsSaidIf (liveliness_get_of rest)
unfolding kept
liveliness-get-said = event-form liveliness_get_parts LivelinessGet refl (λ v s t. (s, t)) (λ v. refl)

share-said : (rest : List (List ℕ)) → AreTexts rest → IsSaidIf (share_of rest)
unfolding kept
share-said = event-form (number_parts u32_max) Share refl (λ v s t. (s, t)) (λ v. refl)

finish-said : (rest : List (List ℕ)) → AreTexts rest → IsSaidIf (finish_of rest)
unfolding kept
finish-said = event-form (number_parts u32_max) Finish refl (λ v s t. (s, t)) (λ v. refl)

tick-said : (rest : List (List ℕ)) → AreTexts rest → IsSaidIf (tick_of rest)
unfolding kept
tick-said = event-form (number_parts u64_max) Tick refl (λ v s t. (s, t)) (λ v. refl)

close-said : (rest : List (List ℕ)) → AreTexts rest → IsSaidIf (close_of rest)
close-said = event-form [] Close refl (λ v s t. (refl, refl)) (λ v. refl)

net-line : (message : Message) → IsMessage message → IsSayable (Net message)
net-line message h = (go (message_line message) h.0, ap Net h.1)
  where
    go : (o : Option (List Slot)) → AreSaid o → IsSayableLine (net_line o)
    go None k = k
    go (Some slots) k = k

net-said : (rest : List (List ℕ)) → AreTexts rest → IsSaidIf (net_of rest)
net-said rest h = on-map {A = Message} {B = Event} Net IsMessage IsSayable net-line (message_of rest) (messages-said rest h)

-- an event, by its first field
core-said : (word : List ℕ) (rest : List (List ℕ)) → AreTexts rest → IsSaidIf (core_by word rest)
core-said word rest h =
    on-choice (bytes_eq word (codes "key")) IsSayable (declare_of rest) _ (declare-said rest h)
    (on-choice (bytes_eq word (codes "sub")) IsSayable (sub_of rest) _ (sub-said rest h)
    (on-choice (bytes_eq word (codes "pub")) IsSayable (pub_of rest) _ (pub-said rest h)
    (on-choice (bytes_eq word (codes "queryable")) IsSayable (queryable_of rest) _ (queryable-said rest h)
    (on-choice (bytes_eq word (codes "querier")) IsSayable (querier_of rest) _ (querier-said rest h)
    (on-choice (bytes_eq word (codes "token")) IsSayable (token_of rest) _ (token-said rest h)
    (on-choice (bytes_eq word (codes "lsub")) IsSayable (lsub_of rest) _ (lsub-said rest h)
    (on-choice (bytes_eq word (codes "listen")) IsSayable (listen_of rest) _ (listen-said rest h)
    (on-choice (bytes_eq word (codes "status")) IsSayable (status_of rest) _ (status-said rest h)
    (on-choice (bytes_eq word (codes "undeclare")) IsSayable (undeclare_of rest) _ (undeclare-said rest h)
    (on-choice (bytes_eq word (codes "background")) IsSayable (background_of rest) _ (background-said rest h)
    (on-choice (bytes_eq word (codes "put")) IsSayable (publish_of put_kind rest) _ (publish-said put_kind rest h)
    (on-choice (bytes_eq word (codes "delete")) IsSayable (publish_of delete_kind rest) _ (publish-said delete_kind rest h)
    (on-choice (bytes_eq word (codes "pput")) IsSayable (publish_by_of put_kind rest) _ (publish-by-said put_kind rest h)
    (on-choice (bytes_eq word (codes "pdel")) IsSayable (publish_by_of delete_kind rest) _ (publish-by-said delete_kind rest h)
    (on-choice (bytes_eq word (codes "ctoken")) IsSayable (cancel_token_of rest) _ (cancel-token-said rest h)
    (on-choice (bytes_eq word (codes "cancel")) IsSayable (cancel_of rest) _ (cancel-said rest h)
    (on-choice (bytes_eq word (codes "get")) IsSayable (get_of rest) _ (get-said rest h)
    (on-choice (bytes_eq word (codes "qget")) IsSayable (querier_get_of rest) _ (querier-get-said rest h)
    (on-choice (bytes_eq word (codes "lget")) IsSayable (liveliness_get_of rest) _ (liveliness-get-said rest h)
    (on-choice (bytes_eq word (codes "reply")) IsSayable (reply_of put_kind rest) _ (reply-said put_kind rest h)
    (on-choice (bytes_eq word (codes "replydel")) IsSayable (reply_of delete_kind rest) _ (reply-said delete_kind rest h)
    (on-choice (bytes_eq word (codes "replyerr")) IsSayable (reply_error_of rest) _ (reply-error-said rest h)
    (on-choice (bytes_eq word (codes "share")) IsSayable (share_of rest) _ (share-said rest h)
    (on-choice (bytes_eq word (codes "finish")) IsSayable (finish_of rest) _ (finish-said rest h)
    (on-choice (bytes_eq word (codes "tick")) IsSayable (tick_of rest) _ (tick-said rest h)
    (on-choice (bytes_eq word (codes "close")) IsSayable (close_of rest) _ (close-said rest h)
    (on-choice (bytes_eq word (codes "net")) IsSayable (net_of rest) None (net-said rest h) tt)))))))))))))))))))))))))))

-- an event of the session, where a line is no read of a channel
abbrev IsCoreSaid : ScriptEvent → Type 0
IsCoreSaid (Core event) = IsSayable event
IsCoreSaid (Recv kind id) = Unit {0}

recv-end : (kind : Kind) (id : ℕ) (left : List (List ℕ)) → IfSome (form [] (Recv kind id) left) IsCoreSaid
unfolding form
recv-end kind id [] = tt
recv-end kind id (field ∷ left) = tt

recv-said : (rest : List (List ℕ)) → IfSome (recv_of rest) IsCoreSaid
unfolding form
recv-said rest =
    on-then {A = Kind × List (List ℕ)} {B = ScriptEvent} (λ found. form (number u32_max ∷ []) (Recv found.0) found.1) (λ _. Unit {0}) IsCoreSaid
    (λ found _. on-then {A = ℕ × List (List ℕ)} {B = ScriptEvent} (λ next. form [] (Recv found.0 next.0) next.1) (λ _. Unit {0}) IsCoreSaid
    (λ next _. recv-end found.0 next.0 next.1) (read (number u32_max) found.1) (on-any _)) (read channel_kind rest) (on-any _)

event-said : (word : List ℕ) (rest : List (List ℕ)) → AreTexts rest → IfSome (event_by word rest) IsCoreSaid
event-said word rest h =
    on-choice (bytes_eq word (codes "recv")) IsCoreSaid (recv_of rest) _ (recv-said rest)
    (on-map {A = Event} {B = ScriptEvent} Core IsSayable IsCoreSaid (λ _ k. k) (core_by word rest) (core-said word rest h))

line-said : (bytes : List ℕ) → has_no_line_feed bytes ≡ true → IfSome (event_of bytes) IsCoreSaid
unfolding event_of
line-said bytes h =
    elim (is_utf8 bytes) as (λ t. is_utf8 bytes ≡ t → IfSome (cond t (event_of_fields (fields bytes)) None) IsCoreSaid) [
      | true ↦ λ e. by-texts IsCoreSaid event_by event-said (fields bytes) (both-texts (fields bytes) (fields-plain bytes h)
          (fields-utf8 (length bytes) bytes (omega arith) (IsUtf8-from_is_utf8 bytes e)))
      | false ↦ λ e. tt
    ] refl

pub lines-say : LinesAreSayable
lines-say bytes event h e =
    let P : Option ScriptEvent → Type 0 = λ o. IfSome o IsCoreSaid in
    subst P e (line-said bytes h)
