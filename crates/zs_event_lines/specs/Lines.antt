-- The line of each event, and what comes back of an event that was printed.
use Rattle.std.specs.Prelude.{ℕ, ◌==◌, Bool, not, ◌&&◌, List, [], ◌∷◌, length, Option, Some, None, option_map, codes, if◌then◌else◌}
use Rattle.zs_bytes.specs.Payload.{bytes_of}
use Rattle.zs_wire.specs.declared.body.Body.{Body}
use Rattle.zs_wire.specs.declared.message.Message.{Message}
use Rattle.zs_wire.specs.declared.message.Message.TheVariants.{DeclareKeyExpr, UndeclareKeyExpr, DeclareSubscriber, UndeclareSubscriber, DeclareQueryable, UndeclareQueryable, DeclareToken, UndeclareToken, DeclareFinal, Interest, Push as push_message, Request as request_message, Response as response_message, ResponseFinal, Close as close_message}
use Rattle.zs_wire.specs.declared.push.Push.{Push}
use Rattle.zs_wire.specs.declared.request.Request.{Request}
use Rattle.zs_wire.specs.declared.response.Answered.{Answered}
use Rattle.zs_wire.specs.declared.response.Answered.TheVariants.{Reply, Err as error_reply}
use Rattle.zs_wire.specs.declared.response.Response.{Response}
use Rattle.zs_wire.specs.declared.sample_kind.SampleKind.{SampleKind}
use Rattle.zs_wire.specs.declared.sample_kind.SampleKind.TheVariants.{Put as put_kind, Delete as delete_kind}
use Rattle.zs_events.specs.declared.event.Event.{Event}
use Rattle.zs_events.specs.declared.event.Event.TheVariants.{Key, UndeclareKey, Sub, Pub, Queryable, Querier, Token, Lsub, Listen, Status, Undeclare, Background, Publish, PublishBy, CancelToken, Cancel, Get, QuerierGet, LivelinessGet, Reply as reply_event, ReplyErr, Share, Finish, Tick, Close, Net}
use Rattle.zs_events.specs.declared.inquiry.Inquiry.{Inquiry}
use Rattle.zs_events.specs.declared.inquiry.QuerySettings.{QuerySettings}
use Rattle.zs_events.specs.declared.key_arg.KeyArg.{KeyArg}
use Rattle.zs_events.specs.declared.chan.Chan.{Chan}
use Rattle.zs_events.specs.declared.update.PushBody.{PushBody}
use Rattle.zs_events.specs.declared.update.PushBody.TheVariants.{Put, Delete}
use Rattle.zs_events.specs.declared.update.Update.{Update}
use Rattle.zs_events.specs.Kinds.{is_nothing}
use Rattle.zs_parts.specs.Symbols.{u16_max, u32_max, u64_max}
use Rattle.zs_printing.specs.Words.{sample_word}
use Rattle.zs_parts.specs.Parts.{Part, wire, number}
use Rattle.zs_grammar.specs.Grammar.{key_parts, number_parts, sub_parts, pub_parts, queryable_parts, querier_parts, lsub_parts, parent_parts, background_parts, publish_parts, publish_by_parts, get_parts, querier_get_parts, liveliness_get_parts, reply_parts, reply_error_parts, numbered_wire_parts, net_queryable_parts, net_token_parts, net_untoken_parts, declare_final_parts, push_parts, request_timeout, request_parts, response_parts, response_error_parts}
use Rattle.zs_parts.specs.Options.{is_default, named_encoding}
use Rattle.zs_parts.specs.Parts.{unnamed}
use Rattle.zs_event_lines.specs.Shown.{entity_word}
use Rattle.zs_event_lines.specs.Sayable.{gathered, gathered_push, gathered_value}
use Rattle.zs_event_lines.specs.Slots.{Slot, at, said, Values, slots_of, Line}

-- a word and a form with its values
abbrev pub form_line : List ℕ → (parts : List Part) → Values parts → Line
form_line first parts values = record { word = first; slots = slots_of parts values }

-- what an update does
abbrev pub body_kind : PushBody → SampleKind
body_kind (Put bytes text) = put_kind
body_kind Delete = delete_kind

-- the words of lines that put or delete
abbrev pub publish_word : SampleKind → List ℕ
publish_word put_kind = codes "put"
publish_word delete_kind = codes "delete"

abbrev pub publish_by_word : SampleKind → List ℕ
publish_by_word put_kind = codes "pput"
publish_by_word delete_kind = codes "pdel"

abbrev pub reply_word : SampleKind → List ℕ
reply_word put_kind = codes "reply"
reply_word delete_kind = codes "replydel"

-- the body of a message as an update says it
abbrev pub told_as : SampleKind → Body → PushBody
told_as put_kind body = Put body.payload (named_encoding body.encoding)
told_as delete_kind body = Delete

-- a body that lines can say: one that puts has an encoding, and one that deletes has no payload and the default encoding
abbrev pub is_said_body : SampleKind → Body → Bool
is_said_body put_kind body = not (is_nothing body.encoding)
is_said_body delete_kind body = length (bytes_of body.payload) == 0 && is_default body.encoding

-- a line behind `net`
abbrev pub push_slots : SampleKind → Push → List Slot
push_slots kind p =
    said (codes "push") ∷ at wire p.wire ∷ said (sample_word kind)
    ∷ slots_of (push_parts kind) (told_as kind p.body, (p.body.timestamp, (p.qos, (p.reliable, (p.body.source, (p.body.attachment, tt))))))

abbrev pub push_line : SampleKind → Push → Option (List Slot)
push_line kind p = if is_said_body kind p.body then Some (push_slots kind p) else None

-- the timeout of a request, where it is not the one that absence gives
abbrev pub named_timeout : ℕ → Option ℕ
named_timeout time = if time == request_timeout then None else Some time

abbrev pub request_slots : Request → List Slot
request_slots r =
    said (codes "request")
    ∷ slots_of request_parts (r.rid, (r.wire, (r.parameters, (r.target, (r.consolidation, (named_timeout r.timeout, (r.value, (r.qos, (r.source, (r.attachment, tt))))))))))

-- what stands before the verb of a response, and what behind it
abbrev pub response_front : Response → List ℕ → List Slot → List Slot
response_front r verb slots = said (codes "response") ∷ at (number u32_max) r.rid ∷ at wire r.wire ∷ said verb ∷ slots

abbrev pub reply_slots : SampleKind → Body → Response → List Slot
reply_slots kind body r =
    response_front r (sample_word kind)
    (slots_of (response_parts kind) (told_as kind body, (body.timestamp, (r.qos, (body.source, (body.attachment, (r.responder, tt)))))))

abbrev pub answered_line : Answered → Response → Option (List Slot)
answered_line (Reply body) r = if is_said_body body.kind body then Some (reply_slots body.kind body r) else None
answered_line (error_reply v) r =
    Some (response_front r (codes "err") (slots_of response_error_parts (v.payload, (v.encoding, (r.qos, (r.responder, tt))))))

abbrev pub message_line : Message → Option (List Slot)
message_line (DeclareKeyExpr n w) = Some (said (codes "keyexpr") ∷ slots_of (numbered_wire_parts u16_max) (n, (w, tt)))
message_line (UndeclareKeyExpr n) = Some (said (codes "unkeyexpr") ∷ slots_of (number_parts u16_max) (n, tt))
message_line (DeclareSubscriber id w) = Some (said (codes "sub") ∷ slots_of (numbered_wire_parts u32_max) (id, (w, tt)))
message_line (UndeclareSubscriber id) = Some (said (codes "unsub") ∷ slots_of (number_parts u32_max) (id, tt))
message_line (DeclareQueryable id flag w) = Some (said (codes "queryable") ∷ slots_of net_queryable_parts (id, (flag, (w, tt))))
message_line (UndeclareQueryable id) = Some (said (codes "unqueryable") ∷ slots_of (number_parts u32_max) (id, tt))
message_line (DeclareToken id w asked) = Some (said (codes "token") ∷ slots_of net_token_parts (id, (w, (asked, tt))))
message_line (UndeclareToken id w asked) = Some (said (codes "untoken") ∷ slots_of net_untoken_parts (id, (w, (asked, tt))))
message_line (DeclareFinal asked) = Some (said (codes "declarefinal") ∷ slots_of declare_final_parts (asked, tt))
message_line (Interest id mode what w) = None
message_line (push_message p) = push_line p.body.kind p
message_line (request_message r) = Some (request_slots r)
message_line (response_message r) = answered_line r.answered r
message_line (ResponseFinal id) = Some (said (codes "responsefinal") ∷ slots_of (number_parts u32_max) (id, tt))
message_line close_message = Some (said (codes "close") ∷ [])

-- the line of a message
abbrev pub net_line : Option (List Slot) → Option Line
net_line None = None
net_line (Some slots) = Some (record { word = codes "net"; slots = slots })

-- the line of a get
abbrev pub inquiry_line : KeyArg → QuerySettings → Inquiry → Chan → Line
inquiry_line k s i to =
    form_line (codes "get") get_parts
    (s.destination, ((k, i.parameters), (s.target, (s.consolidation, (s.timeout, (i.value, (s.qos, (i.source, (i.attachment, (s.any_key, (i.cancellation_token, (to, tt))))))))))))

-- the line of an event, if it has one
abbrev pub line_of : Event → Option Line
line_of (Key k) = Some (form_line (codes "key") key_parts (k, tt))
line_of (UndeclareKey k) = Some (record { word = codes "undeclare"; slots = said (codes "key") ∷ slots_of key_parts (k, tt) })
line_of (Sub origin k to) = Some (form_line (codes "sub") sub_parts (origin, (k, (to, tt))))
line_of (Pub k s) = Some (form_line (codes "pub") pub_parts (s.destination, (k, (s.encoding, (s.quality, tt)))))
line_of (Queryable origin flag k) = Some (form_line (codes "queryable") queryable_parts (origin, (flag, (k, tt))))
line_of (Querier k s) =
    Some (form_line (codes "querier") querier_parts (s.destination, (k, (s.target, (s.consolidation, (s.timeout, (s.qos, (s.any_key, tt))))))))
line_of (Listen kind id) = Some (form_line (codes "listen") parent_parts (kind, (id, tt)))
line_of (Status kind id) = Some (form_line (codes "status") parent_parts (kind, (id, tt)))
line_of (Token k) = Some (form_line (codes "token") key_parts (k, tt))
line_of (Lsub flag k) = Some (form_line (codes "lsub") lsub_parts (flag, (k, tt)))
line_of (Undeclare kind id) = Some (record { word = codes "undeclare"; slots = said (entity_word kind) ∷ slots_of (number_parts u32_max) (id, tt) })
line_of (Background kind id) = Some (form_line (codes "background") background_parts (kind, (id, tt)))
line_of (Publish destination k u q) =
    Some (form_line (publish_word (body_kind u.body)) (publish_parts (body_kind u.body))
    (destination, (k, (u.body, (u.timestamp, (q, (u.source, (u.attachment, tt))))))))
line_of (PublishBy id u) =
    Some (form_line (publish_by_word (body_kind u.body)) (publish_by_parts (body_kind u.body))
    (id, (u.body, (u.timestamp, (u.source, (u.attachment, tt))))))
line_of CancelToken = Some (form_line (codes "ctoken") [] tt)
line_of (Cancel id) = Some (form_line (codes "cancel") (number_parts u32_max) (id, tt))
line_of (Get k s i to) = Some (inquiry_line k s i to)
line_of (QuerierGet id i to) =
    Some (form_line (codes "qget") querier_get_parts
    (id, (i.parameters, (i.value, (i.source, (i.attachment, (i.cancellation_token, (to, tt))))))))
line_of (LivelinessGet k time id to) = Some (form_line (codes "lget") liveliness_get_parts (k, (time, (id, (to, tt)))))
line_of (reply_event id k u q) =
    Some (form_line (reply_word (body_kind u.body)) (reply_parts (body_kind u.body))
    (id, (k, (u.body, (u.timestamp, (q, (u.source, (u.attachment, tt))))))))
line_of (ReplyErr id v) = Some (form_line (codes "replyerr") reply_error_parts (id, (v.payload, (v.encoding, tt))))
line_of (Share id) = Some (form_line (codes "share") (number_parts u32_max) (id, tt))
line_of (Finish id) = Some (form_line (codes "finish") (number_parts u32_max) (id, tt))
line_of (Tick now) = Some (form_line (codes "tick") (number_parts u64_max) (now, tt))
line_of Close = Some (form_line (codes "close") [] tt)
line_of (Net message) = net_line (message_line message)

-- payloads in one slice each
abbrev pub gathered_update : Update → Update
gathered_update u =
    record { body = gathered_push u.body; timestamp = u.timestamp; source = u.source; attachment = option_map gathered u.attachment }

-- and to name the default encoding is to name none
abbrev pub gathered_own : Update → Update
gathered_own u =
    record { body = unnamed (gathered_push u.body); timestamp = u.timestamp; source = u.source; attachment = option_map gathered u.attachment }

abbrev pub gathered_inquiry : Inquiry → Inquiry
gathered_inquiry i = record {
  parameters = i.parameters;
  value = option_map gathered_value i.value;
  source = i.source;
  attachment = option_map gathered i.attachment;
  cancellation_token = i.cancellation_token;
}

abbrev pub gathered_body : Body → Body
gathered_body b = record {
  kind = b.kind;
  payload = gathered b.payload;
  encoding = b.encoding;
  timestamp = b.timestamp;
  source = b.source;
  attachment = option_map gathered b.attachment;
}

abbrev pub gathered_answer : Answered → Answered
gathered_answer (Reply body) = Reply (gathered_body body)
gathered_answer (error_reply v) = error_reply (gathered_value v)

abbrev pub gathered_request : Request → Request
gathered_request r = record {
  rid = r.rid;
  wire = r.wire;
  parameters = r.parameters;
  target = r.target;
  consolidation = r.consolidation;
  timeout = r.timeout;
  value = option_map gathered_value r.value;
  qos = r.qos;
  source = r.source;
  attachment = option_map gathered r.attachment;
}

abbrev pub gathered_message : Message → Message
gathered_message (push_message p) =
    push_message (record { wire = p.wire; body = gathered_body p.body; qos = p.qos; reliable = p.reliable })
gathered_message (request_message r) = request_message (gathered_request r)
gathered_message (response_message r) =
    response_message (record { rid = r.rid; wire = r.wire; answered = gathered_answer r.answered; qos = r.qos; responder = r.responder })
gathered_message message = message

-- the event that comes back of one that was printed: the same, with its payloads in one slice each, and no name for the default encoding
abbrev pub gathered_event : Event → Event
gathered_event (Publish destination k u q) = Publish destination k (gathered_own u) q
gathered_event (PublishBy id u) = PublishBy id (gathered_update u)
gathered_event (Get k s i to) = Get k s (gathered_inquiry i) to
gathered_event (QuerierGet id i to) = QuerierGet id (gathered_inquiry i) to
gathered_event (reply_event id k u q) = reply_event id k (gathered_own u) q
gathered_event (ReplyErr id v) = ReplyErr id (gathered_value v)
gathered_event (Net message) = Net (gathered_message message)
gathered_event event = event
