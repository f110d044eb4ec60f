-- What a line says of a message has a line, and comes back the same.
use Rattle.std.proofs.Common.{ℕ, ◌≡◌, ◌==◌, Bool, true, false, not, List, [], ◌∷◌, Option, Some, None, IfSome, refl, sym, ap, subst, ◌∙◌, cond, codes, option_map, unwrap_or}
use Rattle.std.specs.Prelude.{nat_le}
use Rattle.std.specs.Str.{all_scalars, bytes_eq}
use Rattle.std.proofs.lemmas.Bool.{and_parts, and_from}
use Rattle.zs_sample.specs.Encoding.{encoding_of}
use Rattle.zs_wire.specs.declared.body.Body.{Body}
use Rattle.zs_wire.specs.declared.message.Message.{Message}
use Rattle.zs_wire.specs.declared.message.Message.TheVariants.{DeclareKeyExpr, UndeclareKeyExpr, DeclareSubscriber, UndeclareSubscriber, DeclareQueryable, UndeclareQueryable, DeclareToken, UndeclareToken, DeclareFinal, Push as push_message, Response as response_message, ResponseFinal, Close as close_message}
use Rattle.zs_wire.specs.declared.push.Push.{Push}
use Rattle.zs_wire.specs.declared.response.Response.{Response}
use Rattle.zs_wire.specs.declared.response.Answered.TheVariants.{Reply}
use Rattle.zs_wire.specs.declared.sample_kind.SampleKind.{SampleKind}
use Rattle.zs_wire.specs.declared.sample_kind.SampleKind.TheVariants.{Put as put_kind, Delete as delete_kind}
use Rattle.zs_wire.specs.declared.wire_expr.WireExpr.{WireExpr}
use Rattle.zs_events.specs.declared.update.PushBody.{PushBody}
use Rattle.zs_events.specs.declared.update.PushBody.TheVariants.{Put, Delete}
use Rattle.zs_events.specs.declared.update.Update.{Update}
use Rattle.zs_events.specs.Updates.{body_by}
use Rattle.zs_events.specs.Kinds.{is_nothing}
use Rattle.zs_parts.specs.Symbols.{u16_max, u32_max, u64_max}
use Rattle.zs_parts.specs.Parts.{Part, Maker, wire, number, push_body, read, form}
use Rattle.zs_grammar.specs.Grammar.{by_word, update_of, number_parts, numbered_wire_parts, net_queryable_parts, net_token_parts, net_untoken_parts, declare_final_parts, push_parts, push_made, push_value_of, push_by, push_of, request_timeout, request_parts, request_made, response_parts, response_made, response_value_of, response_error_parts, response_error_made, response_error_of, response_by, response_on, response_of, key_expr_of, unkey_expr_of, net_sub_of, net_unsub_of, net_queryable_of, net_unqueryable_of, net_token_of, net_untoken_of, declare_final_of, request_of, response_final_of, net_close_of, message_by, message_of}
use Rattle.zs_script.proofs.PlainSymbols.{on-then, on-choice}
use Rattle.zs_script.proofs.PlainParts.{AreTexts}
use Rattle.zs_parts.specs.Options.{is_default, named_encoding}
use Rattle.zs_event_lines.specs.Sayable.{if_there, says, says_body, says_encoding, is_typed, is_body, is_wire, are_bytes, kept, gathered, gathered_push}
use Rattle.zs_event_lines.specs.Slots.{Slot, slots_say, slots_are_typed, Values, slots_of, remade}
use Rattle.zs_event_lines.specs.Lines.{told_as, is_said_body, push_slots, push_line, named_timeout, reply_slots, answered_line, message_line, gathered_body, gathered_message}
use Rattle.zs_event_lines.proofs.ReadSymbols.{weaken, IsEncoding, encoding-said}
use Rattle.zs_event_lines.proofs.ReadParts.{IsSaid, Reads, reads}
use Rattle.zs_event_lines.proofs.ReadForms.{made_of, MadeOf, are_own, form-reads}

-- a choice by the first field, of fields that are texts
pub by-texts : {A : Type 0} (P : A → Type 0) (choice : List ℕ → List (List ℕ) → Option A)
    → ((field : List ℕ) (rest : List (List ℕ)) → AreTexts rest → IfSome (choice field rest) P) → (fields : List (List ℕ)) → AreTexts fields
    → IfSome (by_word choice fields) P
by-texts P choice each [] h = tt
by-texts P choice each (field ∷ rest) h = each field rest h.1

-- slots of a line all of which can be said
abbrev pub AreSaid : Option (List Slot) → Type 0
AreSaid None = ⊥
AreSaid (Some slots) = (slots_say slots ≡ true) × (slots_are_typed slots ≡ true)

abbrev pub IsMessage : Message → Type 0
IsMessage message = AreSaid (message_line message) × (gathered_message message ≡ message)

-- a form of a message, where its line is that of its values, and it comes back as what is made of those that do
message-form : (parts : List Part) (make : Maker parts Message) → are_own parts ≡ true
    → ((values : Values parts) → slots_say (slots_of parts values) ≡ true → slots_are_typed (slots_of parts values) ≡ true
    → AreSaid (message_line (made_of parts make values)))
    → ((values : Values parts) → gathered_message (made_of parts make values) ≡ remade parts make values)
    → (rest : List (List ℕ)) → AreTexts rest → IfSome (form parts make rest) IsMessage
message-form parts make own line back rest h =
    weaken (MadeOf Message parts make) IsMessage
    (λ made m. subst IsMessage m.is (line m.values m.said m.typed, back m.values ∙ (m.same ∙ sym m.is)))
    (form parts make rest) (form-reads Message parts make own rest h)

-- bodies: what an update does, as a message has it and as a line of it is told
abbrev IsUpdate : SampleKind → PushBody → Type 0
IsUpdate kind what = (says_body kind what ≡ true) × (is_body what ≡ true)

record IsTold (kind : SampleKind) (body : Body) : Type 0 where
  pub same : body.kind ≡ kind
  pub is : is_said_body kind body ≡ true
  pub told : IsUpdate kind (told_as kind body)

encoded-as : (text : Option (List ℕ)) → if_there says_encoding text ≡ true → if_there all_scalars text ≡ true → IsEncoding (encoding_of (unwrap_or text []))
encoded-as None h k = encoding-said [] refl refl
encoded-as (Some text) h k = encoding-said text (and_parts (not (is_nothing text)) _ h).1 k

named-if : (test : List ℕ → Bool) (text : List ℕ) → test text ≡ true → if_there test (named_encoding text) ≡ true
named-if test text h = go (is_default text)
  where
    go : (b : Bool) → if_there test (cond b None (Some text)) ≡ true
    go true = refl
    go false = h

body-told : (kind : SampleKind) (what : PushBody) (update : Update) → IsUpdate kind what → IsTold kind (body_by what [] update)
unfolding lib.Utf8.encode
body-told put_kind (Put bytes text) update h =
    let typed = and_parts (are_bytes bytes) _ h.1 in
    let enc = encoded-as text h.0 typed.1 in
    let name = encoding_of (unwrap_or text []) in
    let parts = and_parts (not (is_nothing name)) _ enc.0 in record {
      same = refl;
      is = parts.0;
      told = (named-if says_encoding name enc.0, and_from _ _ typed.0 (named-if all_scalars name enc.1));
    }
body-told put_kind Delete update h = cc h.0
body-told delete_kind (Put bytes text) update h = cc h.0
body-told delete_kind Delete update h = record { same = refl; is = refl; told = (refl, refl) }

body-back : (what : PushBody) (u : Update) → gathered_body (body_by what [] u)
    ≡ body_by (gathered_push what) [] (record { body = gathered_push what; timestamp = u.timestamp; source = u.source; attachment = option_map gathered u.attachment })
body-back (Put bytes text) u = refl
body-back Delete u = refl

-- publications
line-said : (kind : SampleKind) (p : Push) → is_said_body kind p.body ≡ true → AreSaid (Some (push_slots kind p)) → AreSaid (push_line kind p)
line-said kind p is said = rw is said

push-line-said : (kind : SampleKind) (p : Push) → p.body.kind ≡ kind → is_said_body kind p.body ≡ true → AreSaid (Some (push_slots kind p))
    → AreSaid (message_line (push_message p))
push-line-said kind p same is said = subst (λ k. AreSaid (push_line k p)) (sym same) (line-said kind p is said)

push-reads : (w : WireExpr) (kind : SampleKind) (v : Values (push_parts kind)) → IsSaid wire w
    → slots_say (slots_of (push_parts kind) v) ≡ true → slots_are_typed (slots_of (push_parts kind) v) ≡ true
    → AreSaid (message_line (made_of (push_parts kind) (push_made w kind) v))
unfolding says is_typed
push-reads w put_kind (Put bytes text, (time, (service, (flag, (origin, (beside, none)))))) h s t =
    let said = and_parts (says (push_body put_kind) (Put bytes text)) _ s in
    let typed = and_parts (is_typed (push_body put_kind) (Put bytes text)) _ t in
    let told = body-told put_kind (Put bytes text) (update_of (Put bytes text) time origin beside) (said.0, typed.0) in
    push-line-said put_kind
    (record { wire = w; body = body_by (Put bytes text) [] (update_of (Put bytes text) time origin beside); qos = service; reliable = flag })
    refl told.is (and_from _ _ h.0 (and_from _ _ told.told.0 said.1), and_from _ _ h.1.0 (and_from _ _ told.told.1 typed.1))
push-reads w put_kind (Delete, rest) h s t = cc s
push-reads w delete_kind (Put bytes text, rest) h s t = cc s
push-reads w delete_kind (Delete, (time, (service, (flag, (origin, (beside, none)))))) h s t =
    let told = body-told delete_kind Delete (update_of Delete time origin beside) (refl, refl) in
    push-line-said delete_kind
    (record { wire = w; body = body_by Delete [] (update_of Delete time origin beside); qos = service; reliable = flag })
    refl told.is (and_from _ _ h.0 s, and_from _ _ h.1.0 t)

push-value-reads : (w : WireExpr) → IsSaid wire w → (kind : SampleKind) (rest : List (List ℕ)) → AreTexts rest → IfSome (push_value_of w kind rest) IsMessage
unfolding kept
push-value-reads w h kind =
    message-form (push_parts kind) (push_made w kind) refl (λ v s t. push-reads w kind v h s t)
    (λ v. ap (λ body. push_message (record { wire = w; body = body; qos = v.1.1.0; reliable = v.1.1.1.0 }))
    (body-back v.0 (update_of v.0 v.1.0 v.1.1.1.1.0 v.1.1.1.1.1.0)))

push-by-reads : (w : WireExpr) → IsSaid wire w → (word : List ℕ) (rest : List (List ℕ)) → AreTexts rest → IfSome (push_by w word rest) IsMessage
push-by-reads w h word rest k =
    on-choice (bytes_eq word (codes "put")) IsMessage (push_value_of w put_kind rest) _ (push-value-reads w h put_kind rest k)
    (on-choice (bytes_eq word (codes "del")) IsMessage (push_value_of w delete_kind rest) None (push-value-reads w h delete_kind rest k) tt)

push-said : (rest : List (List ℕ)) → AreTexts rest → IfSome (push_of rest) IsMessage
unfolding push_of
push-said rest h =
    on-then {A = WireExpr × List (List ℕ)} {B = Message} (λ found. by_word (push_by found.0) found.1)
    (Reads (IsSaid wire)) IsMessage
    (λ found k. by-texts IsMessage (push_by found.0) (push-by-reads found.0 k.0) found.1 k.1) (read wire rest) (reads wire refl rest h)

-- requests
timeout-said : (time : Option ℕ) → if_there (λ n. nat_le n u64_max) time ≡ true
    → if_there (λ n. nat_le n u64_max) (named_timeout (unwrap_or time request_timeout)) ≡ true
timeout-said None h = refl
timeout-said (Some n) h = go (n == request_timeout)
  where
    go : (b : Bool) → if_there (λ m. nat_le m u64_max) (cond b None (Some n)) ≡ true
    go true = refl
    go false = h

request-line : (v : Values request_parts) → slots_say (slots_of request_parts v) ≡ true → slots_are_typed (slots_of request_parts v) ≡ true
    → AreSaid (message_line (made_of request_parts request_made v))
unfolding says is_typed
request-line (n, (w, (text, (whom, (mode, (time, (given, (service, (origin, (beside, none)))))))))) s t =
    let typed_number = and_parts (nat_le n u32_max) _ t in
    let typed_wire = and_parts (is_wire w) _ typed_number.1 in
    let typed_text = and_parts (all_scalars text) _ typed_wire.1 in
    let typed_time = and_parts (if_there (λ m. nat_le m u64_max) time) _ typed_text.1 in
    (s, and_from _ _ typed_number.0 (and_from _ _ typed_wire.0 (and_from _ _ typed_text.0 (and_from _ _ (timeout-said time typed_time.0) typed_time.1))))

request-said : (rest : List (List ℕ)) → AreTexts rest → IfSome (request_of rest) IsMessage
unfolding kept
request-said = message-form request_parts request_made refl request-line (λ v. refl)

-- responses
reply-line : (kind : SampleKind) (body : Body) (r : Response) → is_said_body kind body ≡ true → AreSaid (Some (reply_slots kind body r))
    → AreSaid (cond (is_said_body kind body) (Some (reply_slots kind body r)) None)
reply-line kind body r is said = rw is said

reply-line-said : (kind : SampleKind) (body : Body) (r : Response) → body.kind ≡ kind → is_said_body kind body ≡ true
    → AreSaid (Some (reply_slots kind body r)) → AreSaid (answered_line (Reply body) r)
reply-line-said kind body r same is said =
    subst (λ k. AreSaid (cond (is_said_body k body) (Some (reply_slots k body r)) None)) (sym same) (reply-line kind body r is said)

response-reads : (n : ℕ) (w : WireExpr) (kind : SampleKind) (v : Values (response_parts kind)) → IsSaid (number u32_max) n → IsSaid wire w
    → slots_say (slots_of (response_parts kind) v) ≡ true → slots_are_typed (slots_of (response_parts kind) v) ≡ true
    → AreSaid (message_line (made_of (response_parts kind) (response_made n w kind) v))
unfolding says is_typed
response-reads n w put_kind (Put bytes text, (time, (service, (origin, (beside, (who, none)))))) g h s t =
    let said = and_parts (says (push_body put_kind) (Put bytes text)) _ s in
    let typed = and_parts (is_typed (push_body put_kind) (Put bytes text)) _ t in
    let told = body-told put_kind (Put bytes text) (update_of (Put bytes text) time origin beside) (said.0, typed.0) in
    let body = body_by (Put bytes text) [] (update_of (Put bytes text) time origin beside) in
    reply-line-said put_kind body (record { rid = n; wire = w; answered = Reply body; qos = service; responder = who })
    refl told.is (and_from _ _ h.0 (and_from _ _ told.told.0 said.1), and_from _ _ g.1.0 (and_from _ _ h.1.0 (and_from _ _ told.told.1 typed.1)))
response-reads n w put_kind (Delete, rest) g h s t = cc s
response-reads n w delete_kind (Put bytes text, rest) g h s t = cc s
response-reads n w delete_kind (Delete, (time, (service, (origin, (beside, (who, none)))))) g h s t =
    let told = body-told delete_kind Delete (update_of Delete time origin beside) (refl, refl) in
    let body = body_by Delete [] (update_of Delete time origin beside) in
    reply-line-said delete_kind body (record { rid = n; wire = w; answered = Reply body; qos = service; responder = who })
    refl told.is (and_from _ _ h.0 s, and_from _ _ g.1.0 (and_from _ _ h.1.0 t))

response-value-reads : (n : ℕ) (w : WireExpr) → IsSaid (number u32_max) n → IsSaid wire w → (kind : SampleKind) (rest : List (List ℕ)) → AreTexts rest
    → IfSome (response_value_of n w kind rest) IsMessage
unfolding kept
response-value-reads n w g h kind =
    message-form (response_parts kind) (response_made n w kind) refl (λ v s t. response-reads n w kind v g h s t)
    (λ v. ap (λ body. response_message (record { rid = n; wire = w; answered = Reply body; qos = v.1.1.0; responder = v.1.1.1.1.1.0 }))
    (body-back v.0 (update_of v.0 v.1.0 v.1.1.1.0 v.1.1.1.1.0)))

response-error-reads : (n : ℕ) (w : WireExpr) → IsSaid (number u32_max) n → IsSaid wire w → (rest : List (List ℕ)) → AreTexts rest
    → IfSome (response_error_of n w rest) IsMessage
unfolding says is_typed kept
response-error-reads n w g h =
    message-form response_error_parts (response_error_made n w) refl
    (λ v s t. (and_from _ _ h.0 s, and_from _ _ g.1.0 (and_from _ _ h.1.0 t))) (λ v. refl)

response-by-reads : (n : ℕ) (w : WireExpr) → IsSaid (number u32_max) n → IsSaid wire w → (word : List ℕ) (rest : List (List ℕ)) → AreTexts rest
    → IfSome (response_by n w word rest) IsMessage
response-by-reads n w g h word rest k =
    on-choice (bytes_eq word (codes "put")) IsMessage (response_value_of n w put_kind rest) _ (response-value-reads n w g h put_kind rest k)
    (on-choice (bytes_eq word (codes "del")) IsMessage (response_value_of n w delete_kind rest) _ (response-value-reads n w g h delete_kind rest k)
    (on-choice (bytes_eq word (codes "err")) IsMessage (response_error_of n w rest) None (response-error-reads n w g h rest k) tt))

response-on-reads : (n : ℕ) → IsSaid (number u32_max) n → (rest : List (List ℕ)) → AreTexts rest → IfSome (response_on n rest) IsMessage
unfolding response_on
response-on-reads n g rest h =
    on-then {A = WireExpr × List (List ℕ)} {B = Message} (λ found. by_word (response_by n found.0) found.1)
    (Reads (IsSaid wire)) IsMessage
    (λ found k. by-texts IsMessage (response_by n found.0) (response-by-reads n found.0 g k.0) found.1 k.1) (read wire rest) (reads wire refl rest h)

response-said : (rest : List (List ℕ)) → AreTexts rest → IfSome (response_of rest) IsMessage
unfolding response_of
response-said rest h =
    on-then {A = ℕ × List (List ℕ)} {B = Message} (λ found. response_on found.0 found.1) (Reads (IsSaid (number u32_max))) IsMessage
    (λ found k. response-on-reads found.0 k.0 found.1 k.1) (read (number u32_max) rest) (reads (number u32_max) refl rest h)

-- declarations, and the others
key-expr-said : (rest : List (List ℕ)) → AreTexts rest → IfSome (key_expr_of rest) IsMessage
unfolding kept
key-expr-said = message-form (numbered_wire_parts u16_max) DeclareKeyExpr refl (λ v s t. (s, t)) (λ v. refl)

unkey-expr-said : (rest : List (List ℕ)) → AreTexts rest → IfSome (unkey_expr_of rest) IsMessage
unfolding kept
unkey-expr-said = message-form (number_parts u16_max) UndeclareKeyExpr refl (λ v s t. (s, t)) (λ v. refl)

net-sub-said : (rest : List (List ℕ)) → AreTexts rest → IfSome (net_sub_of rest) IsMessage
unfolding kept
net-sub-said = message-form (numbered_wire_parts u32_max) DeclareSubscriber refl (λ v s t. (s, t)) (λ v. refl)

net-unsub-said : (rest : List (List ℕ)) → AreTexts rest → IfSome (net_unsub_of rest) IsMessage
unfolding kept
net-unsub-said = message-form (number_parts u32_max) UndeclareSubscriber refl (λ v s t. (s, t)) (λ v. refl)

net-queryable-said : (rest : List (List ℕ)) → AreTexts rest → IfSome (net_queryable_of rest) IsMessage
unfolding kept
net-queryable-said = message-form net_queryable_parts DeclareQueryable refl (λ v s t. (s, t)) (λ v. refl)

net-unqueryable-said : (rest : List (List ℕ)) → AreTexts rest → IfSome (net_unqueryable_of rest) IsMessage
unfolding kept
net-unqueryable-said = message-form (number_parts u32_max) UndeclareQueryable refl (λ v s t. (s, t)) (λ v. refl)

net-token-said : (rest : List (List ℕ)) → AreTexts rest → IfSome (net_token_of rest) IsMessage
unfolding kept
net-token-said = message-form net_token_parts DeclareToken refl (λ v s t. (s, t)) (λ v. refl)

net-untoken-said : (rest : List (List ℕ)) → AreTexts rest → IfSome (net_untoken_of rest) IsMessage
unfolding kept
net-untoken-said = message-form net_untoken_parts UndeclareToken refl (λ v s t. (s, t)) (λ v. refl)

declare-final-said : (rest : List (List ℕ)) → AreTexts rest → IfSome (declare_final_of rest) IsMessage
unfolding kept
declare-final-said = message-form declare_final_parts DeclareFinal refl (λ v s t. (s, t)) (λ v. refl)

response-final-said : (rest : List (List ℕ)) → AreTexts rest → IfSome (response_final_of rest) IsMessage
unfolding kept
response-final-said = message-form (number_parts u32_max) ResponseFinal refl (λ v s t. (s, t)) (λ v. refl)

net-close-said : (rest : List (List ℕ)) → AreTexts rest → IfSome (net_close_of rest) IsMessage
net-close-said = message-form [] close_message refl (λ v s t. (refl, refl)) (λ v. refl)

-- a message, by its first field
by-message : (word : List ℕ) (rest : List (List ℕ)) → AreTexts rest → IfSome (message_by word rest) IsMessage
by-message word rest h =
    on-choice (bytes_eq word (codes "keyexpr")) IsMessage (key_expr_of rest) _ (key-expr-said rest h)
    (on-choice (bytes_eq word (codes "unkeyexpr")) IsMessage (unkey_expr_of rest) _ (unkey-expr-said rest h)
    (on-choice (bytes_eq word (codes "sub")) IsMessage (net_sub_of rest) _ (net-sub-said rest h)
    (on-choice (bytes_eq word (codes "unsub")) IsMessage (net_unsub_of rest) _ (net-unsub-said rest h)
    (on-choice (bytes_eq word (codes "queryable")) IsMessage (net_queryable_of rest) _ (net-queryable-said rest h)
    (on-choice (bytes_eq word (codes "unqueryable")) IsMessage (net_unqueryable_of rest) _ (net-unqueryable-said rest h)
    (on-choice (bytes_eq word (codes "token")) IsMessage (net_token_of rest) _ (net-token-said rest h)
    (on-choice (bytes_eq word (codes "untoken")) IsMessage (net_untoken_of rest) _ (net-untoken-said rest h)
    (on-choice (bytes_eq word (codes "declarefinal")) IsMessage (declare_final_of rest) _ (declare-final-said rest h)
    (on-choice (bytes_eq word (codes "push")) IsMessage (push_of rest) _ (push-said rest h)
    (on-choice (bytes_eq word (codes "request")) IsMessage (request_of rest) _ (request-said rest h)
    (on-choice (bytes_eq word (codes "response")) IsMessage (response_of rest) _ (response-said rest h)
    (on-choice (bytes_eq word (codes "responsefinal")) IsMessage (response_final_of rest) _ (response-final-said rest h)
    (on-choice (bytes_eq word (codes "close")) IsMessage (net_close_of rest) None (net-close-said rest h) tt)))))))))))))

pub messages-said : (rest : List (List ℕ)) → AreTexts rest → IfSome (message_of rest) IsMessage
unfolding message_of
messages-said rest h = by-texts IsMessage message_by by-message rest h
