-- What lines without line feeds say is plain.
use Rattle.std.proofs.Common.{ℕ, ◌≡◌, Bool, true, false, ◌&&◌, List, [], ◌∷◌, length, Option, Some, None, IfSome, refl, subst, arith, cond, codes}
use Rattle.std.specs.Str.{is_utf8, bytes_eq}
use Rattle.std.proofs.lemmas.Bool.{and_parts, and_from}
use Rattle.std.proofs.lemmas.Str.{IsUtf8-from_is_utf8}
use Rattle.zs_wire.specs.declared.message.Message.{Message}
use Rattle.zs_wire.specs.declared.message.Message.TheVariants.{UndeclareToken}
use Rattle.zs_wire.specs.declared.sample_kind.SampleKind.{SampleKind}
use Rattle.zs_wire.specs.declared.sample_kind.SampleKind.TheVariants.{Put as put_kind, Delete as delete_kind}
use Rattle.zs_wire.specs.declared.wire_expr.WireExpr.{WireExpr}
use Rattle.zs_events.specs.declared.entity_kind.EntityKind.{EntityKind}
use Rattle.zs_events.specs.declared.event.Event.{Event}
use Rattle.zs_events.specs.declared.event.Event.TheVariants.{Undeclare, Net}
use Rattle.zs_events.specs.declared.script_event.ScriptEvent.{ScriptEvent}
use Rattle.zs_events.specs.declared.script_event.ScriptEvent.TheVariants.{Core}
use Rattle.zs_events.specs.Kinds.{NoKey, WireKey, is_blank}
use Rattle.zs_lines.specs.Lines.{fields}
use Rattle.zs_parts.specs.Symbols.{u32_max, entity_kind_of}
use Rattle.zs_parts.specs.Parts.{number, form}
use Rattle.zs_grammar.specs.Grammar.{by_word, update_of, declare_of, sub_of, pub_of, queryable_of, querier_of, token_of, lsub_of, listen_of, status_of, undeclare_entity_of, undeclared_by, undeclare_of, background_of, publish_of, publish_by_of, cancel_token_of, cancel_of, get_of, querier_get_of, liveliness_get_of, recv_of, reply_of, reply_error_of, share_of, finish_of, tick_of, close_of, key_expr_of, unkey_expr_of, net_sub_of, net_unsub_of, net_queryable_of, net_unqueryable_of, net_token_of, net_untoken_of, declare_final_of, push_value_of, push_by, push_of, request_of, response_value_of, response_error_of, response_by, response_on, response_of, response_final_of, net_close_of, message_by, message_of, net_of, core_by, event_by, event_of_fields, event_of}
use Rattle.zs_script.specs.Plain.{has_no_line_feed, is_plain_named}
use Rattle.zs_script.specs.Laws.{EventsArePlain}
use Rattle.zs_script.proofs.PlainTexts.{fields-plain}
use Rattle.zs_script.proofs.PlainSymbols.{PlainWire, on-map, on-then, on-any, on-choice, fields-utf8, both-texts}
use Rattle.zs_script.proofs.PlainParts.{AreTexts, PlainWireIf, PlainEvent, PlainMessage, PlainLine, body-plain, wire-read, number-read, form-plain, message-plain, line-plain}

abbrev IsPlainIf : Option Event → Type 0
IsPlainIf found = IfSome found PlainEvent

abbrev IsMessageIf : Option Message → Type 0
IsMessageIf found = IfSome found PlainMessage

abbrev IsLineIf : Option ScriptEvent → Type 0
IsLineIf found = IfSome found PlainLine

by-word : {A : Type 0} (P : A → Type 0) (choose : List ℕ → List (List ℕ) → Option A)
    → ((word : List ℕ) (rest : List (List ℕ)) → AreTexts rest → IfSome (choose word rest) P)
    → (parts : List (List ℕ)) → AreTexts parts → IfSome (by_word choose parts) P
by-word P choose each [] h = tt
by-word P choose each (word ∷ rest) h = each word rest h.1

-- the forms of lines
declare-plain : (rest : List (List ℕ)) → AreTexts rest → IsPlainIf (declare_of rest)
declare-plain = form-plain _ _ (λ _ k. and_from _ _ k refl)

sub-plain : (rest : List (List ℕ)) → AreTexts rest → IsPlainIf (sub_of rest)
sub-plain = form-plain _ _ (λ _ _ _ k _ _. and_from _ _ k refl)

pub-plain : (rest : List (List ℕ)) → AreTexts rest → IsPlainIf (pub_of rest)
pub-plain = form-plain _ _ (λ _ _ _ k _ e _ _. and_from _ _ k (and_from _ _ e refl))

queryable-plain : (rest : List (List ℕ)) → AreTexts rest → IsPlainIf (queryable_of rest)
queryable-plain = form-plain _ _ (λ _ _ _ _ _ k. and_from _ _ k refl)

querier-plain : (rest : List (List ℕ)) → AreTexts rest → IsPlainIf (querier_of rest)
querier-plain = form-plain _ _ (λ _ _ _ k _ _ _ _ _ _ _ _ _ _. and_from _ _ k refl)

token-plain : (rest : List (List ℕ)) → AreTexts rest → IsPlainIf (token_of rest)
token-plain = form-plain _ _ (λ _ k. and_from _ _ k refl)

lsub-plain : (rest : List (List ℕ)) → AreTexts rest → IsPlainIf (lsub_of rest)
lsub-plain = form-plain _ _ (λ _ _ _ k. and_from _ _ k refl)

listen-plain : (rest : List (List ℕ)) → AreTexts rest → IsPlainIf (listen_of rest)
listen-plain = form-plain _ _ (λ _ _ _ _. refl)

status-plain : (rest : List (List ℕ)) → AreTexts rest → IsPlainIf (status_of rest)
status-plain = form-plain _ _ (λ _ _ _ _. refl)

undeclare-entity-plain : (word : List ℕ) (rest : List (List ℕ)) → AreTexts rest → IsPlainIf (undeclare_entity_of word rest)
undeclare-entity-plain word rest h =
    on-then {A = EntityKind} {B = Event} (λ kind. form (number u32_max ∷ []) (Undeclare kind) rest) (λ _. Unit {0}) PlainEvent
    (λ kind _. form-plain _ _ (λ _ _. refl) rest h) (entity_kind_of word) (on-any _)

undeclare-plain : (word : List ℕ) (rest : List (List ℕ)) → AreTexts rest → IsPlainIf (undeclared_by word rest)
undeclare-plain word rest h =
    on-choice (bytes_eq word (codes "key")) PlainEvent _ _ (form-plain _ _ (λ _ k. and_from _ _ k refl) rest h)
    (undeclare-entity-plain word rest h)

background-plain : (rest : List (List ℕ)) → AreTexts rest → IsPlainIf (background_of rest)
background-plain = form-plain _ _ (λ _ _ _ _. refl)

publish-plain : (kind : SampleKind) (rest : List (List ℕ)) → AreTexts rest → IsPlainIf (publish_of kind rest)
publish-plain kind = form-plain _ _ (λ _ _ _ k _ e _ _ _ _ _ _ _ _. and_from _ _ k e)

publish-by-plain : (kind : SampleKind) (rest : List (List ℕ)) → AreTexts rest → IsPlainIf (publish_by_of kind rest)
publish-by-plain kind = form-plain _ _ (λ _ _ _ e _ _ _ _ _ _. e)

cancel-token-plain : (rest : List (List ℕ)) → AreTexts rest → IsPlainIf (cancel_token_of rest)
cancel-token-plain = form-plain _ _ refl

cancel-plain : (rest : List (List ℕ)) → AreTexts rest → IsPlainIf (cancel_of rest)
cancel-plain = form-plain _ _ (λ _ _. refl)

get-plain : (rest : List (List ℕ)) → AreTexts rest → IsPlainIf (get_of rest)
get-plain = form-plain _ _ (λ _ _ _ s _ _ _ _ _ _ _ v _ _ _ _ _ _ _ _ _ _ _ _. and_from _ _ s.0 (and_from _ _ s.1 v))

querier-get-plain : (rest : List (List ℕ)) → AreTexts rest → IsPlainIf (querier_get_of rest)
querier-get-plain = form-plain _ _ (λ _ _ _ t _ v _ _ _ _ _ _ _ _. and_from _ _ t v)

liveliness-get-plain : (rest : List (List ℕ)) → AreTexts rest → IsPlainIf (liveliness_get_of rest)
liveliness-get-plain = form-plain _ _ (λ _ k _ _ _ _ _ _. and_from _ _ k refl)

recv-plain : (rest : List (List ℕ)) → AreTexts rest → IsLineIf (recv_of rest)
recv-plain = line-plain _ _ (λ _ _ _ _. refl)

reply-plain : (kind : SampleKind) (rest : List (List ℕ)) → AreTexts rest → IsPlainIf (reply_of kind rest)
reply-plain kind = form-plain _ _ (λ _ _ _ k _ e _ _ _ _ _ _ _ _. and_from _ _ k e)

reply-error-plain : (rest : List (List ℕ)) → AreTexts rest → IsPlainIf (reply_error_of rest)
reply-error-plain = form-plain _ _ (λ _ _ _ _ _ e. and_from _ _ e refl)

share-plain : (rest : List (List ℕ)) → AreTexts rest → IsPlainIf (share_of rest)
share-plain = form-plain _ _ (λ _ _. refl)

finish-plain : (rest : List (List ℕ)) → AreTexts rest → IsPlainIf (finish_of rest)
finish-plain = form-plain _ _ (λ _ _. refl)

tick-plain : (rest : List (List ℕ)) → AreTexts rest → IsPlainIf (tick_of rest)
tick-plain = form-plain _ _ (λ _ _. refl)

close-plain : (rest : List (List ℕ)) → AreTexts rest → IsPlainIf (close_of rest)
close-plain = form-plain _ _ refl

undeclare-event : (rest : List (List ℕ)) → AreTexts rest → IsPlainIf (undeclare_of rest)
unfolding undeclare_of
undeclare-event rest h = by-word PlainEvent undeclared_by undeclare-plain rest h

-- messages
key-expr-plain : (rest : List (List ℕ)) → AreTexts rest → IsMessageIf (key_expr_of rest)
key-expr-plain = message-plain _ _ (λ _ _ _ w. and_from _ _ w refl)

unkey-expr-plain : (rest : List (List ℕ)) → AreTexts rest → IsMessageIf (unkey_expr_of rest)
unkey-expr-plain = message-plain _ _ (λ _ _. refl)

net-sub-plain : (rest : List (List ℕ)) → AreTexts rest → IsMessageIf (net_sub_of rest)
net-sub-plain = message-plain _ _ (λ _ _ _ w. and_from _ _ w refl)

net-unsub-plain : (rest : List (List ℕ)) → AreTexts rest → IsMessageIf (net_unsub_of rest)
net-unsub-plain = message-plain _ _ (λ _ _. refl)

net-queryable-plain : (rest : List (List ℕ)) → AreTexts rest → IsMessageIf (net_queryable_of rest)
net-queryable-plain = message-plain _ _ (λ _ _ _ _ _ w. and_from _ _ w refl)

net-unqueryable-plain : (rest : List (List ℕ)) → AreTexts rest → IsMessageIf (net_unqueryable_of rest)
net-unqueryable-plain = message-plain _ _ (λ _ _. refl)

net-token-plain : (rest : List (List ℕ)) → AreTexts rest → IsMessageIf (net_token_of rest)
net-token-plain = message-plain _ _ (λ _ _ _ w _ _. and_from _ _ w refl)

untoken-plain : (n : ℕ) (w : Option WireExpr) (asked : Option ℕ) → PlainWireIf w → PlainMessage (UndeclareToken n w asked)
untoken-plain n None asked k = refl
untoken-plain n (Some w) asked k = go (is_blank w) (and_parts _ true k).0
  where
    go : (b : Bool) → PlainWire w → is_plain_named (cond b NoKey (WireKey w)) && true ≡ true
    go true k = refl
    go false k = and_from _ _ k refl

net-untoken-plain : (rest : List (List ℕ)) → AreTexts rest → IsMessageIf (net_untoken_of rest)
net-untoken-plain = message-plain _ _ (λ n _ w k asked _. untoken-plain n w asked k)

declare-final-plain : (rest : List (List ℕ)) → AreTexts rest → IsMessageIf (declare_final_of rest)
declare-final-plain = message-plain _ _ (λ _ _. refl)

push-value-plain : (wire : WireExpr) → PlainWire wire → (kind : SampleKind) (rest : List (List ℕ)) → AreTexts rest → IsMessageIf (push_value_of wire kind rest)
push-value-plain wire w kind =
    message-plain _ _ (λ what e time _ _ _ _ _ origin _ beside _.
    and_from _ _ w (and_from _ _ (body-plain what (update_of what time origin beside) e) refl))

push-by-plain : (wire : WireExpr) → PlainWire wire → (word : List ℕ) (rest : List (List ℕ)) → AreTexts rest → IsMessageIf (push_by wire word rest)
push-by-plain wire w word rest h =
    on-choice (bytes_eq word (codes "put")) PlainMessage (push_value_of wire put_kind rest) _ (push-value-plain wire w put_kind rest h)
    (on-choice (bytes_eq word (codes "del")) PlainMessage (push_value_of wire delete_kind rest) None (push-value-plain wire w delete_kind rest h) tt)

push-plain : (rest : List (List ℕ)) → AreTexts rest → IsMessageIf (push_of rest)
unfolding push_of
push-plain rest h =
    on-then {A = WireExpr × List (List ℕ)} {B = Message} (λ found. by_word (push_by found.0) found.1)
    (λ found. PlainWire found.0 × AreTexts found.1) PlainMessage
    (λ found k. by-word PlainMessage (push_by found.0) (push-by-plain found.0 k.0) found.1 k.1) _ (wire-read rest h)

request-plain : (rest : List (List ℕ)) → AreTexts rest → IsMessageIf (request_of rest)
request-plain = message-plain _ _ (λ _ _ _ w _ t _ _ _ _ _ _ _ v _ _ _ _ _ _. and_from _ _ w (and_from _ _ t v))

response-value-plain : (n : ℕ) (wire : WireExpr) → PlainWire wire → (kind : SampleKind) (rest : List (List ℕ)) → AreTexts rest
    → IsMessageIf (response_value_of n wire kind rest)
response-value-plain n wire w kind =
    message-plain _ _ (λ what e time _ _ _ origin _ beside _ _ _.
    and_from _ _ w (and_from _ _ (body-plain what (update_of what time origin beside) e) refl))

response-error-plain : (n : ℕ) (wire : WireExpr) (rest : List (List ℕ)) → AreTexts rest → IsMessageIf (response_error_of n wire rest)
response-error-plain n wire = message-plain _ _ (λ _ _ _ e _ _ _ _. and_from _ _ e refl)

response-by-plain : (n : ℕ) (wire : WireExpr) → PlainWire wire → (word : List ℕ) (rest : List (List ℕ)) → AreTexts rest → IsMessageIf (response_by n wire word rest)
response-by-plain n wire w word rest h =
    on-choice (bytes_eq word (codes "put")) PlainMessage (response_value_of n wire put_kind rest) _ (response-value-plain n wire w put_kind rest h)
    (on-choice (bytes_eq word (codes "del")) PlainMessage (response_value_of n wire delete_kind rest) _ (response-value-plain n wire w delete_kind rest h)
    (on-choice (bytes_eq word (codes "err")) PlainMessage (response_error_of n wire rest) None (response-error-plain n wire rest h) tt))

response-on-plain : (n : ℕ) (rest : List (List ℕ)) → AreTexts rest → IsMessageIf (response_on n rest)
unfolding response_on
response-on-plain n rest h =
    on-then {A = WireExpr × List (List ℕ)} {B = Message} (λ found. by_word (response_by n found.0) found.1)
    (λ found. PlainWire found.0 × AreTexts found.1) PlainMessage
    (λ found k. by-word PlainMessage (response_by n found.0) (response-by-plain n found.0 k.0) found.1 k.1) _ (wire-read rest h)

response-plain : (rest : List (List ℕ)) → AreTexts rest → IsMessageIf (response_of rest)
unfolding response_of
response-plain rest h =
    on-then {A = ℕ × List (List ℕ)} {B = Message} (λ found. response_on found.0 found.1) (λ found. AreTexts found.1) PlainMessage
    (λ found k. response-on-plain found.0 found.1 k) _ (number-read u32_max rest h)

response-final-plain : (rest : List (List ℕ)) → AreTexts rest → IsMessageIf (response_final_of rest)
response-final-plain = message-plain _ _ (λ _ _. refl)

net-close-plain : (rest : List (List ℕ)) → AreTexts rest → IsMessageIf (net_close_of rest)
net-close-plain = message-plain _ _ refl

by-message-plain : (word : List ℕ) (rest : List (List ℕ)) → AreTexts rest → IsMessageIf (message_by word rest)
by-message-plain word rest h =
    on-choice (bytes_eq word (codes "keyexpr")) PlainMessage (key_expr_of rest) _ (key-expr-plain rest h)
    (on-choice (bytes_eq word (codes "unkeyexpr")) PlainMessage (unkey_expr_of rest) _ (unkey-expr-plain rest h)
    (on-choice (bytes_eq word (codes "sub")) PlainMessage (net_sub_of rest) _ (net-sub-plain rest h)
    (on-choice (bytes_eq word (codes "unsub")) PlainMessage (net_unsub_of rest) _ (net-unsub-plain rest h)
    (on-choice (bytes_eq word (codes "queryable")) PlainMessage (net_queryable_of rest) _ (net-queryable-plain rest h)
    (on-choice (bytes_eq word (codes "unqueryable")) PlainMessage (net_unqueryable_of rest) _ (net-unqueryable-plain rest h)
    (on-choice (bytes_eq word (codes "token")) PlainMessage (net_token_of rest) _ (net-token-plain rest h)
    (on-choice (bytes_eq word (codes "untoken")) PlainMessage (net_untoken_of rest) _ (net-untoken-plain rest h)
    (on-choice (bytes_eq word (codes "declarefinal")) PlainMessage (declare_final_of rest) _ (declare-final-plain rest h)
    (on-choice (bytes_eq word (codes "push")) PlainMessage (push_of rest) _ (push-plain rest h)
    (on-choice (bytes_eq word (codes "request")) PlainMessage (request_of rest) _ (request-plain rest h)
    (on-choice (bytes_eq word (codes "response")) PlainMessage (response_of rest) _ (response-plain rest h)
    (on-choice (bytes_eq word (codes "responsefinal")) PlainMessage (response_final_of rest) _ (response-final-plain rest h)
    (on-choice (bytes_eq word (codes "close")) PlainMessage (net_close_of rest) None (net-close-plain rest h) tt)))))))))))))

by-messages : (rest : List (List ℕ)) → AreTexts rest → IsMessageIf (message_of rest)
unfolding message_of
by-messages rest h = by-word PlainMessage message_by by-message-plain rest h

net-plain : (rest : List (List ℕ)) → AreTexts rest → IsPlainIf (net_of rest)
net-plain rest h = on-map {A = Message} {B = Event} Net PlainMessage PlainEvent (λ _ k. k) (message_of rest) (by-messages rest h)

core-plain : (word : List ℕ) (rest : List (List ℕ)) → AreTexts rest → IsPlainIf (core_by word rest)
core-plain word rest h =
    on-choice (bytes_eq word (codes "key")) PlainEvent (declare_of rest) _ (declare-plain rest h)
    (on-choice (bytes_eq word (codes "sub")) PlainEvent (sub_of rest) _ (sub-plain rest h)
    (on-choice (bytes_eq word (codes "pub")) PlainEvent (pub_of rest) _ (pub-plain rest h)
    (on-choice (bytes_eq word (codes "queryable")) PlainEvent (queryable_of rest) _ (queryable-plain rest h)
    (on-choice (bytes_eq word (codes "querier")) PlainEvent (querier_of rest) _ (querier-plain rest h)
    (on-choice (bytes_eq word (codes "token")) PlainEvent (token_of rest) _ (token-plain rest h)
    (on-choice (bytes_eq word (codes "lsub")) PlainEvent (lsub_of rest) _ (lsub-plain rest h)
    (on-choice (bytes_eq word (codes "listen")) PlainEvent (listen_of rest) _ (listen-plain rest h)
    (on-choice (bytes_eq word (codes "status")) PlainEvent (status_of rest) _ (status-plain rest h)
    (on-choice (bytes_eq word (codes "undeclare")) PlainEvent (undeclare_of rest) _ (undeclare-event rest h)
    (on-choice (bytes_eq word (codes "background")) PlainEvent (background_of rest) _ (background-plain rest h)
    (on-choice (bytes_eq word (codes "put")) PlainEvent (publish_of put_kind rest) _ (publish-plain put_kind rest h)
    (on-choice (bytes_eq word (codes "delete")) PlainEvent (publish_of delete_kind rest) _ (publish-plain delete_kind rest h)
    (on-choice (bytes_eq word (codes "pput")) PlainEvent (publish_by_of put_kind rest) _ (publish-by-plain put_kind rest h)
    (on-choice (bytes_eq word (codes "pdel")) PlainEvent (publish_by_of delete_kind rest) _ (publish-by-plain delete_kind rest h)
    (on-choice (bytes_eq word (codes "ctoken")) PlainEvent (cancel_token_of rest) _ (cancel-token-plain rest h)
    (on-choice (bytes_eq word (codes "cancel")) PlainEvent (cancel_of rest) _ (cancel-plain rest h)
    (on-choice (bytes_eq word (codes "get")) PlainEvent (get_of rest) _ (get-plain rest h)
    (on-choice (bytes_eq word (codes "qget")) PlainEvent (querier_get_of rest) _ (querier-get-plain rest h)
    (on-choice (bytes_eq word (codes "lget")) PlainEvent (liveliness_get_of rest) _ (liveliness-get-plain rest h)
    (on-choice (bytes_eq word (codes "reply")) PlainEvent (reply_of put_kind rest) _ (reply-plain put_kind rest h)
    (on-choice (bytes_eq word (codes "replydel")) PlainEvent (reply_of delete_kind rest) _ (reply-plain delete_kind rest h)
    (on-choice (bytes_eq word (codes "replyerr")) PlainEvent (reply_error_of rest) _ (reply-error-plain rest h)
    (on-choice (bytes_eq word (codes "share")) PlainEvent (share_of rest) _ (share-plain rest h)
    (on-choice (bytes_eq word (codes "finish")) PlainEvent (finish_of rest) _ (finish-plain rest h)
    (on-choice (bytes_eq word (codes "tick")) PlainEvent (tick_of rest) _ (tick-plain rest h)
    (on-choice (bytes_eq word (codes "close")) PlainEvent (close_of rest) _ (close-plain rest h)
    (on-choice (bytes_eq word (codes "net")) PlainEvent (net_of rest) None (net-plain rest h) tt)))))))))))))))))))))))))))

event-plain : (word : List ℕ) (rest : List (List ℕ)) → AreTexts rest → IsLineIf (event_by word rest)
event-plain word rest h =
    on-choice (bytes_eq word (codes "recv")) PlainLine (recv_of rest) _ (recv-plain rest h)
    (on-map {A = Event} {B = ScriptEvent} Core PlainEvent PlainLine (λ _ k. k) (core_by word rest) (core-plain word rest h))

fields-event : (parts : List (List ℕ)) → AreTexts parts → IsLineIf (event_of_fields parts)
fields-event parts h = by-word PlainLine event_by event-plain parts h

line-event : (bytes : List ℕ) → has_no_line_feed bytes ≡ true → IfSome (event_of bytes) PlainLine
unfolding event_of
line-event bytes h =
    elim (is_utf8 bytes) as (λ t. is_utf8 bytes ≡ t → IfSome (cond t (event_of_fields (fields bytes)) None) PlainLine) [
      | true ↦ λ e. fields-event (fields bytes) (both-texts (fields bytes) (fields-plain bytes h)
          (fields-utf8 (length bytes) bytes (omega arith) (IsUtf8-from_is_utf8 bytes e)))
      | false ↦ λ e. tt
    ] refl

pub events-plain : EventsArePlain
events-plain bytes event h e =
    let P : Option ScriptEvent → Type 0 = λ o. IfSome o PlainLine in
    subst P e (line-event bytes h)
