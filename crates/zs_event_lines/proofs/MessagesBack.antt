-- Each message is read as what was printed of it.
use Rattle.std.proofs.Common.{ℕ, ◌≡◌, ◌==◌, Bool, true, false, not, List, [], ◌∷◌, ◌++◌, length, Option, Some, None, option_map, unwrap_or, refl, sym, ap, ◌∙◌, cond, codes}
use Rattle.std.proofs.lemmas.Bool.{and_parts, eqb-true}
use Rattle.zs_bytes.specs.Payload.{bytes_of}
use Rattle.zs_sample.specs.Encoding.{encoding_of}
use Rattle.zs_wire.specs.declared.body.Body.{Body}
use Rattle.zs_wire.specs.declared.message.Message.{Message}
use Rattle.zs_wire.specs.declared.message.Message.TheVariants.{DeclareKeyExpr, UndeclareKeyExpr, DeclareSubscriber, UndeclareSubscriber, DeclareQueryable, UndeclareQueryable, DeclareToken, UndeclareToken, DeclareFinal, Interest, Push as push_message, Request as request_message, Response as response_message, ResponseFinal, Close as close_message}
use Rattle.zs_wire.specs.declared.push.Push.{Push}
use Rattle.zs_wire.specs.declared.request.Request.{Request}
use Rattle.zs_wire.specs.declared.response.Answered.{Answered}
use Rattle.zs_wire.specs.declared.response.Answered.TheVariants.{Reply, Err as error_reply}
use Rattle.zs_wire.specs.declared.response.Response.{Response}
use Rattle.zs_wire.specs.declared.sample_kind.SampleKind.{SampleKind}
use Rattle.zs_wire.specs.declared.sample_kind.SampleKind.TheVariants.{Put as put_kind, Delete as delete_kind}
use Rattle.zs_events.specs.Updates.{default_encoding, body_of}
use Rattle.zs_events.specs.Kinds.{is_nothing}
use Rattle.zs_parts.specs.Symbols.{u16_max, u32_max}
use Rattle.zs_parts.specs.Parts.{wire, number}
use Rattle.zs_grammar.specs.Grammar.{update_of, number_parts, numbered_wire_parts, net_queryable_parts, net_token_parts, net_untoken_parts, declare_final_parts, push_parts, push_made, push_of, request_timeout, request_parts, request_made, response_parts, response_made, response_error_parts, response_error_made, response_by, response_on, response_of, message_of}
use Rattle.zs_parts.specs.Options.{is_default, named_encoding}
use Rattle.zs_event_lines.specs.Shown.{shown}
use Rattle.zs_event_lines.specs.Sayable.{kept, says, is_typed, gathered, gathered_push}
use Rattle.zs_event_lines.specs.Slots.{Slot, slots_fields, slots_say, slots_are_typed, slots_of}
use Rattle.zs_event_lines.specs.Lines.{told_as, is_said_body, push_slots, push_line, named_timeout, request_slots, response_front, reply_slots, answered_line, message_line, gathered_body, gathered_answer, gathered_request, gathered_message}
use Rattle.zs_event_lines.proofs.EncodingsBack.{default-same, encoding-kept}
use Rattle.zs_event_lines.proofs.PartsBack.{back}
use Rattle.zs_event_lines.proofs.FormsBack.{form-back}
use Rattle.zs_event_lines.proofs.LineTexts.{words_are_plain}

-- the words of a line are plain, and where all of it can be said, its fields are read as this message
abbrev pub IsMessageBack : Option (List Slot) → Message → Type 0
IsMessageBack None message = Unit {0}
IsMessageBack (Some slots) message =
    (words_are_plain slots ≡ true)
    × (slots_say slots ≡ true → slots_are_typed slots ≡ true → message_of (slots_fields slots) ≡ Some message)

-- bodies
encoding-told : (text : List ℕ) → not (is_nothing text) ≡ true → encoding_of (unwrap_or (named_encoding text) []) ≡ text
encoding-told text some = go (is_default text) (default-same text)
  where
    go : (b : Bool) → (b ≡ true → text ≡ default_encoding) → encoding_of (unwrap_or (cond b None (Some text)) []) ≡ text
    go true same = sym (same refl)
    go false same = encoding-kept text some

body-told : (kind : SampleKind) (body : Body) → body.kind ≡ kind → is_said_body kind body ≡ true
    → body_of [] (update_of (gathered_push (told_as kind body)) body.timestamp body.source (option_map gathered body.attachment))
    ≡ gathered_body body
body-told put_kind body same h = rw (same, encoding-told body.encoding h) refl
body-told delete_kind body same h =
    let both = and_parts (length (bytes_of body.payload) == 0) _ h in
    rw (same, both.0, default-same body.encoding both.1) refl

-- publications
push-said : (kind : SampleKind) (p : Push) → p.body.kind ≡ kind → is_said_body kind p.body ≡ true
    → IsMessageBack (Some (push_slots kind p)) (gathered_message (push_message p))
unfolding message_of push_of kept says is_typed
push-said put_kind p same h = (
  refl,
  λ s t.
      let typed = and_parts _ _ t in
      rw (back wire p.wire refl (and_parts _ _ s).0 typed.0 (codes "put" ∷ slots_fields (slots_of (push_parts put_kind) (told_as put_kind p.body, (p.body.timestamp, (p.qos, (p.reliable, (p.body.source, (p.body.attachment, tt)))))))) tt)
      (form-back (push_parts put_kind) (push_made p.wire put_kind) (told_as put_kind p.body, (p.body.timestamp, (p.qos, (p.reliable, (p.body.source, (p.body.attachment, tt)))))) refl (and_parts _ _ s).1 typed.1
      ∙ ap (λ body. Some (push_message (record { wire = p.wire; body = body; qos = p.qos; reliable = p.reliable }))) (body-told put_kind p.body same h)),
)
push-said delete_kind p same h = (
  refl,
  λ s t.
      let typed = and_parts _ _ t in
      rw (back wire p.wire refl (and_parts _ _ s).0 typed.0 (codes "del" ∷ slots_fields (slots_of (push_parts delete_kind) (told_as delete_kind p.body, (p.body.timestamp, (p.qos, (p.reliable, (p.body.source, (p.body.attachment, tt)))))))) tt)
      (form-back (push_parts delete_kind) (push_made p.wire delete_kind) (told_as delete_kind p.body, (p.body.timestamp, (p.qos, (p.reliable, (p.body.source, (p.body.attachment, tt)))))) refl (and_parts _ _ s).1 typed.1
      ∙ ap (λ body. Some (push_message (record { wire = p.wire; body = body; qos = p.qos; reliable = p.reliable }))) (body-told delete_kind p.body same h)),
)

push-back : (kind : SampleKind) (p : Push) → p.body.kind ≡ kind → IsMessageBack (push_line kind p) (gathered_message (push_message p))
push-back kind p same =
    elim (is_said_body kind p.body) as (λ t. is_said_body kind p.body ≡ t → IsMessageBack (cond t (Some (push_slots kind p)) None) (gathered_message (push_message p)))
    [ true ↦ λ e. push-said kind p same e | false ↦ λ e. tt ] refl

-- requests
timeout-told : (time : ℕ) → unwrap_or (named_timeout time) request_timeout ≡ time
timeout-told time = go (time == request_timeout) (λ e. eqb-true time request_timeout e)
  where
    go : (b : Bool) → (b ≡ true → time ≡ request_timeout) → unwrap_or (cond b None (Some time)) request_timeout ≡ time
    go true same = sym (same refl)
    go false same = refl

request-back : (r : Request) → IsMessageBack (Some (request_slots r)) (gathered_message (request_message r))
unfolding message_of kept
request-back r = (
  refl,
  λ s t.
      form-back request_parts request_made (r.rid, (r.wire, (r.parameters, (r.target, (r.consolidation, (named_timeout r.timeout, (r.value, (r.qos, (r.source, (r.attachment, tt)))))))))) refl s t
      ∙ ap (λ time. Some (request_message (record (gathered_request r) { timeout = time }))) (timeout-told r.timeout),
)

-- responses: what stands before the verb
front-back : (r : Response) (verb : List ℕ) (slots : List Slot) (message : Message)
    → slots_say (response_front r verb slots) ≡ true → slots_are_typed (response_front r verb slots) ≡ true
    → (slots_say slots ≡ true → slots_are_typed slots ≡ true → response_by r.rid r.wire verb (slots_fields slots) ≡ Some message)
    → message_of (slots_fields (response_front r verb slots)) ≡ Some message
unfolding message_of response_of response_on kept
front-back r verb slots message s t rest =
    let said_number = and_parts _ _ s in
    let typed_number = and_parts _ _ t in
    let said_wire = and_parts _ _ said_number.1 in
    let typed_wire = and_parts _ _ typed_number.1 in
    rw (back (number u32_max) r.rid refl said_number.0 typed_number.0 (shown wire r.wire ++ (verb ∷ slots_fields slots)) tt)
    (rw (back wire r.wire refl said_wire.0 typed_wire.0 (verb ∷ slots_fields slots) tt) (rest said_wire.1 typed_wire.1))

reply-said : (kind : SampleKind) (body : Body) (r : Response) → body.kind ≡ kind → is_said_body kind body ≡ true
    → IsMessageBack (Some (reply_slots kind body r)) (response_message (record { rid = r.rid; wire = r.wire; answered = Reply (gathered_body body); qos = r.qos; responder = r.responder }))
unfolding kept
reply-said put_kind body r same h = (
  refl,
  λ s t. front-back r (codes "put") (slots_of (response_parts put_kind) (told_as put_kind body, (body.timestamp, (r.qos, (body.source, (body.attachment, (r.responder, tt))))))) _ s t
      (λ told typed. form-back (response_parts put_kind) (response_made r.rid r.wire put_kind) (told_as put_kind body, (body.timestamp, (r.qos, (body.source, (body.attachment, (r.responder, tt)))))) refl told typed
      ∙ ap (λ b. Some (response_message (record { rid = r.rid; wire = r.wire; answered = Reply b; qos = r.qos; responder = r.responder }))) (body-told put_kind body same h)),
)
reply-said delete_kind body r same h = (
  refl,
  λ s t. front-back r (codes "del") (slots_of (response_parts delete_kind) (told_as delete_kind body, (body.timestamp, (r.qos, (body.source, (body.attachment, (r.responder, tt))))))) _ s t
      (λ told typed. form-back (response_parts delete_kind) (response_made r.rid r.wire delete_kind) (told_as delete_kind body, (body.timestamp, (r.qos, (body.source, (body.attachment, (r.responder, tt)))))) refl told typed
      ∙ ap (λ b. Some (response_message (record { rid = r.rid; wire = r.wire; answered = Reply b; qos = r.qos; responder = r.responder }))) (body-told delete_kind body same h)),
)

reply-back : (kind : SampleKind) (body : Body) (r : Response) → body.kind ≡ kind
    → IsMessageBack (cond (is_said_body kind body) (Some (reply_slots kind body r)) None) (response_message (record { rid = r.rid; wire = r.wire; answered = Reply (gathered_body body); qos = r.qos; responder = r.responder }))
reply-back kind body r same =
    elim (is_said_body kind body) as (λ t. is_said_body kind body ≡ t → IsMessageBack (cond t (Some (reply_slots kind body r)) None) (response_message (record { rid = r.rid; wire = r.wire; answered = Reply (gathered_body body); qos = r.qos; responder = r.responder })))
    [ true ↦ λ e. reply-said kind body r same e | false ↦ λ e. tt ] refl

answer-back : (answered : Answered) (r : Response)
    → IsMessageBack (answered_line answered r) (response_message (record { rid = r.rid; wire = r.wire; answered = gathered_answer answered; qos = r.qos; responder = r.responder }))
unfolding kept
answer-back (Reply body) r = reply-back body.kind body r refl
answer-back (error_reply v) r = (
  refl,
  λ s t. front-back r (codes "err") (slots_of response_error_parts (v.payload, (v.encoding, (r.qos, (r.responder, tt))))) _ s t
      (λ told typed. form-back response_error_parts (response_error_made r.rid r.wire) (v.payload, (v.encoding, (r.qos, (r.responder, tt)))) refl told typed),
)

pub message-back : (message : Message) → IsMessageBack (message_line message) (gathered_message message)
unfolding message_of kept
message-back (DeclareKeyExpr n w) = (refl, form-back (numbered_wire_parts u16_max) DeclareKeyExpr (n, (w, tt)) refl)
message-back (UndeclareKeyExpr n) = (refl, form-back (number_parts u16_max) UndeclareKeyExpr (n, tt) refl)
message-back (DeclareSubscriber id w) = (refl, form-back (numbered_wire_parts u32_max) DeclareSubscriber (id, (w, tt)) refl)
message-back (UndeclareSubscriber id) = (refl, form-back (number_parts u32_max) UndeclareSubscriber (id, tt) refl)
message-back (DeclareQueryable id flag w) = (refl, form-back net_queryable_parts DeclareQueryable (id, (flag, (w, tt))) refl)
message-back (UndeclareQueryable id) = (refl, form-back (number_parts u32_max) UndeclareQueryable (id, tt) refl)
message-back (DeclareToken id w asked) = (refl, form-back net_token_parts DeclareToken (id, (w, (asked, tt))) refl)
message-back (UndeclareToken id w asked) = (refl, form-back net_untoken_parts UndeclareToken (id, (w, (asked, tt))) refl)
message-back (DeclareFinal asked) = (refl, form-back declare_final_parts DeclareFinal (asked, tt) refl)
message-back (Interest id mode what w) = tt
message-back (push_message p) = push-back p.body.kind p refl
message-back (request_message r) = request-back r
message-back (response_message r) = answer-back r.answered r
message-back (ResponseFinal id) = (refl, form-back (number_parts u32_max) ResponseFinal (id, tt) refl)
message-back close_message = (refl, form-back [] close_message tt refl)
