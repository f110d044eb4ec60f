-- What a line says, if it says something.
use Rattle.std.specs.Prelude.{ℕ, Bool, List, [], ◌∷◌, Option, None, option_map, option_and_then, unwrap_or, codes, if◌then◌else◌}
use Rattle.std.specs.Str.{bytes_eq, is_utf8}
use Rattle.zs_sample.specs.declared.locality.Locality.{Locality}
use Rattle.zs_wire.specs.declared.message.Message.{Message}
use Rattle.zs_wire.specs.declared.message.Message.TheVariants.{DeclareKeyExpr, UndeclareKeyExpr, DeclareSubscriber, UndeclareSubscriber, DeclareQueryable, UndeclareQueryable, DeclareToken, UndeclareToken, DeclareFinal, Push, Request as request_message, Response as response_message, ResponseFinal, Close as close_message}
use Rattle.zs_wire.specs.declared.body.Value.{Value}
use Rattle.zs_wire.specs.declared.origin.EntityGlobalId.{EntityGlobalId}
use Rattle.zs_wire.specs.declared.origin.SourceInfo.{SourceInfo}
use Rattle.zs_wire.specs.declared.origin.Timestamp.{Timestamp}
use Rattle.zs_wire.specs.declared.quality.CongestionControl.TheVariants.{Drop, Block}
use Rattle.zs_wire.specs.declared.quality.QoSType.{QoSType}
use Rattle.zs_wire.specs.declared.request.ConsolidationMode.{ConsolidationMode}
use Rattle.zs_wire.specs.declared.request.QueryTarget.{QueryTarget}
use Rattle.zs_wire.specs.declared.response.Answered.{Answered}
use Rattle.zs_wire.specs.declared.response.Answered.TheVariants.{Reply, Err as error_reply}
use Rattle.zs_wire.specs.declared.sample_kind.SampleKind.{SampleKind}
use Rattle.zs_wire.specs.declared.sample_kind.SampleKind.TheVariants.{Put as put_kind, Delete as delete_kind}
use Rattle.zs_wire.specs.declared.wire_expr.WireExpr.{WireExpr}
use Rattle.zs_events.specs.declared.event.Event.{Event}
use Rattle.zs_events.specs.declared.event.Event.TheVariants.{Key, UndeclareKey, Sub, Pub, Queryable, Querier, Token, Lsub, Listen, Status, Undeclare, Background, Publish, PublishBy, CancelToken, Cancel, Get, QuerierGet, LivelinessGet, Reply as reply_event, ReplyErr, Share, Finish, Tick, Close, Net}
use Rattle.zs_events.specs.declared.script_event.ScriptEvent.{ScriptEvent}
use Rattle.zs_events.specs.declared.script_event.ScriptEvent.TheVariants.{Core, Recv}
use Rattle.zs_events.specs.declared.inquiry.Inquiry.{Inquiry}
use Rattle.zs_events.specs.declared.inquiry.QuerySettings.{QuerySettings}
use Rattle.zs_events.specs.declared.update.PushBody.{PushBody}
use Rattle.zs_events.specs.declared.update.Update.{Update}
use Rattle.zs_events.specs.Updates.{body_of}
use Rattle.zs_lines.specs.Lines.{fields}
use Rattle.zs_parts.specs.Symbols.{u16_max, u32_max, u64_max, entity_kind_of}
use Rattle.zs_parts.specs.Parts.{number, locality, background_kind, parent, complete, history, key, selector, wire, wire_if, payload, push_body, own_body, parameters, target, consolidation, timeout, value, encoding, timestamp, qos, reliable, quality, reply_quality, source, attachment, responder, any_key, cancellation_token, interest, channel, handed_to, channel_kind, Part, Maker, read, form}

-- what a choice by the first field makes of the fields behind it
abbrev pub by_word : {A : Type 0} → (List ℕ → List (List ℕ) → Option A) → List (List ℕ) → Option A
by_word choice [] = None
by_word choice (word ∷ rest) = choice word rest

-- what an application says of a key, how a get asks, and what it asks
abbrev pub update_of : PushBody → Option Timestamp → Option SourceInfo → Option (List (List ℕ)) → Update
update_of what time origin beside = record { body = what; timestamp = time; source = origin; attachment = beside }

abbrev pub settings_of : Locality → QueryTarget → ConsolidationMode → Option ℕ → QoSType → Bool → QuerySettings
settings_of where_to whom mode time service any =
    record { destination = where_to; target = whom; consolidation = mode; timeout = time; qos = service; any_key = any }

abbrev pub inquiry_of : List ℕ → Option Value → Option SourceInfo → Option (List (List ℕ)) → Option ℕ → Inquiry
inquiry_of text given origin beside cancel =
    record { parameters = text; value = given; source = origin; attachment = beside; cancellation_token = cancel }

-- a key alone, or a number alone
abbrev pub key_parts : List Part
key_parts = key ∷ []

abbrev pub number_parts : ℕ → List Part
number_parts most = number most ∷ []

-- `key KEY`
abbrev pub declare_of : List (List ℕ) → Option Event
declare_of rest = form key_parts Key rest

-- `sub LOC KEY`, `sub LOC KEY CHAN`
abbrev pub sub_parts : List Part
sub_parts = locality ∷ key ∷ channel ∷ []

abbrev pub sub_of : List (List ℕ) → Option Event
sub_of rest = form sub_parts Sub rest

-- `pub LOC KEY` and its options
abbrev pub pub_parts : List Part
pub_parts = locality ∷ key ∷ encoding ∷ quality ∷ []

abbrev pub pub_made : Maker pub_parts Event
pub_made where_to k text how = Pub k (record { destination = where_to; encoding = text; quality = how })

abbrev pub pub_of : List (List ℕ) → Option Event
pub_of rest = form pub_parts pub_made rest

-- `queryable LOC complete KEY`, `queryable LOC partial KEY`
abbrev pub queryable_parts : List Part
queryable_parts = locality ∷ complete ∷ key ∷ []

abbrev pub queryable_of : List (List ℕ) → Option Event
queryable_of rest = form queryable_parts Queryable rest

-- `querier LOC KEY` and its options
abbrev pub querier_parts : List Part
querier_parts = locality ∷ key ∷ target ∷ consolidation ∷ timeout ∷ qos 1 Block ∷ any_key ∷ []

abbrev pub querier_made : Maker querier_parts Event
querier_made where_to k whom mode time service any = Querier k (settings_of where_to whom mode time service any)

abbrev pub querier_of : List (List ℕ) → Option Event
querier_of rest = form querier_parts querier_made rest

-- `token KEY`
abbrev pub token_of : List (List ℕ) → Option Event
token_of rest = form key_parts Token rest

-- `lsub history KEY`, `lsub live KEY`
abbrev pub lsub_parts : List Part
lsub_parts = history ∷ key ∷ []

abbrev pub lsub_of : List (List ℕ) → Option Event
lsub_of rest = form lsub_parts Lsub rest

-- whose matching is asked for
abbrev pub parent_parts : List Part
parent_parts = parent ∷ number u32_max ∷ []

-- `listen pub N`, `listen querier N`
abbrev pub listen_of : List (List ℕ) → Option Event
listen_of rest = form parent_parts Listen rest

-- `status pub N`, `status querier N`
abbrev pub status_of : List (List ℕ) → Option Event
status_of rest = form parent_parts Status rest

-- `N`, behind `undeclare` and a kind
abbrev pub undeclare_entity_of : List ℕ → List (List ℕ) → Option Event
undeclare_entity_of word rest = option_and_then (λ kind. form (number_parts u32_max) (Undeclare kind) rest) (entity_kind_of word)

-- `undeclare key KEY`, and `undeclare`, a kind and `N`
abbrev pub undeclared_by : List ℕ → List (List ℕ) → Option Event
undeclared_by word rest =
    if bytes_eq word (codes "key") then form key_parts UndeclareKey rest else undeclare_entity_of word rest

unfoldable pub undeclare_of : List (List ℕ) → Option Event
undeclare_of rest = by_word undeclared_by rest

-- `background`, a kind and `N`
abbrev pub background_parts : List Part
background_parts = background_kind ∷ number u32_max ∷ []

abbrev pub background_of : List (List ℕ) → Option Event
background_of rest = form background_parts Background rest

-- `put LOC KEY BYTES` or `delete LOC KEY`, and the options
abbrev pub publish_parts : SampleKind → List Part
publish_parts kind = locality ∷ key ∷ own_body kind ∷ timestamp ∷ quality ∷ source ∷ attachment ∷ []

abbrev pub publish_made : (kind : SampleKind) → Maker (publish_parts kind) Event
publish_made kind where_to k what time how origin beside = Publish where_to k (update_of what time origin beside) how

abbrev pub publish_of : SampleKind → List (List ℕ) → Option Event
publish_of kind rest = form (publish_parts kind) (publish_made kind) rest

-- `pput N BYTES` or `pdel N`, and the options: without an encoding a put has the publisher's
abbrev pub publish_by_parts : SampleKind → List Part
publish_by_parts kind = number u32_max ∷ push_body kind ∷ timestamp ∷ source ∷ attachment ∷ []

abbrev pub publish_by_made : (kind : SampleKind) → Maker (publish_by_parts kind) Event
publish_by_made kind n what time origin beside = PublishBy n (update_of what time origin beside)

abbrev pub publish_by_of : SampleKind → List (List ℕ) → Option Event
publish_by_of kind rest = form (publish_by_parts kind) (publish_by_made kind) rest

-- `ctoken`
abbrev pub cancel_token_of : List (List ℕ) → Option Event
cancel_token_of rest = form [] CancelToken rest

-- `cancel N`
abbrev pub cancel_of : List (List ℕ) → Option Event
cancel_of rest = form (number_parts u32_max) Cancel rest

-- `get LOC SELECTOR` and its options: the selector is a key and the parameters
abbrev pub get_parts : List Part
get_parts =
    locality ∷ selector ∷ target ∷ consolidation ∷ timeout ∷ value ∷ qos 1 Block ∷ source ∷ attachment ∷ any_key
    ∷ cancellation_token ∷ handed_to ∷ []

abbrev pub get_made : Maker get_parts Event
get_made where_to chosen whom mode time given service origin beside any cancel out =
    Get chosen.0 (settings_of where_to whom mode time service any) (inquiry_of chosen.1 given origin beside cancel) out

abbrev pub get_of : List (List ℕ) → Option Event
get_of rest = form get_parts get_made rest

-- `qget N` and its options: the others are the querier's
abbrev pub querier_get_parts : List Part
querier_get_parts = number u32_max ∷ parameters ∷ value ∷ source ∷ attachment ∷ cancellation_token ∷ handed_to ∷ []

abbrev pub querier_get_made : Maker querier_get_parts Event
querier_get_made n text given origin beside cancel out = QuerierGet n (inquiry_of text given origin beside cancel) out

abbrev pub querier_get_of : List (List ℕ) → Option Event
querier_get_of rest = form querier_get_parts querier_get_made rest

-- `lget KEY` and its options
abbrev pub liveliness_get_parts : List Part
liveliness_get_parts = key ∷ timeout ∷ cancellation_token ∷ handed_to ∷ []

abbrev pub liveliness_get_of : List (List ℕ) → Option Event
liveliness_get_of rest = form liveliness_get_parts LivelinessGet rest

-- `recv sub N`, `recv get N`, `recv lget N`
abbrev pub recv_of : List (List ℕ) → Option ScriptEvent
recv_of rest = form (channel_kind ∷ number u32_max ∷ []) Recv rest

-- `reply N KEY BYTES` or `replydel N KEY`, and the options: what is not given is as in the query
abbrev pub reply_parts : SampleKind → List Part
reply_parts kind = number u32_max ∷ key ∷ own_body kind ∷ timestamp ∷ reply_quality ∷ source ∷ attachment ∷ []

abbrev pub reply_made : (kind : SampleKind) → Maker (reply_parts kind) Event
reply_made kind n k what time how origin beside = reply_event n k (update_of what time origin beside) how

abbrev pub reply_of : SampleKind → List (List ℕ) → Option Event
reply_of kind rest = form (reply_parts kind) (reply_made kind) rest

-- `replyerr N BYTES` and its option
abbrev pub reply_error_parts : List Part
reply_error_parts = number u32_max ∷ payload ∷ encoding ∷ []

abbrev pub reply_error_made : Maker reply_error_parts Event
reply_error_made n bytes text = ReplyErr n (record { payload = bytes; encoding = text })

abbrev pub reply_error_of : List (List ℕ) → Option Event
reply_error_of rest = form reply_error_parts reply_error_made rest

-- `share N`
abbrev pub share_of : List (List ℕ) → Option Event
share_of rest = form (number_parts u32_max) Share rest

-- `finish N`
abbrev pub finish_of : List (List ℕ) → Option Event
finish_of rest = form (number_parts u32_max) Finish rest

-- `tick N`
abbrev pub tick_of : List (List ℕ) → Option Event
tick_of rest = form (number_parts u64_max) Tick rest

-- `close`
abbrev pub close_of : List (List ℕ) → Option Event
close_of rest = form [] Close rest

-- a number, and what it is declared for
abbrev pub numbered_wire_parts : ℕ → List Part
numbered_wire_parts most = number most ∷ wire ∷ []

-- `keyexpr N WIRE`, behind `net`
abbrev pub key_expr_of : List (List ℕ) → Option Message
key_expr_of rest = form (numbered_wire_parts u16_max) DeclareKeyExpr rest

-- `unkeyexpr N`, behind `net`
abbrev pub unkey_expr_of : List (List ℕ) → Option Message
unkey_expr_of rest = form (number_parts u16_max) UndeclareKeyExpr rest

-- `sub N WIRE`, behind `net`
abbrev pub net_sub_of : List (List ℕ) → Option Message
net_sub_of rest = form (numbered_wire_parts u32_max) DeclareSubscriber rest

-- `unsub N`, behind `net`
abbrev pub net_unsub_of : List (List ℕ) → Option Message
net_unsub_of rest = form (number_parts u32_max) UndeclareSubscriber rest

-- `queryable N complete WIRE`, `queryable N partial WIRE`, behind `net`
abbrev pub net_queryable_parts : List Part
net_queryable_parts = number u32_max ∷ complete ∷ wire ∷ []

abbrev pub net_queryable_of : List (List ℕ) → Option Message
net_queryable_of rest = form net_queryable_parts DeclareQueryable rest

-- `unqueryable N`, behind `net`
abbrev pub net_unqueryable_of : List (List ℕ) → Option Message
net_unqueryable_of rest = form (number_parts u32_max) UndeclareQueryable rest

-- `token N WIRE` and its option, behind `net`
abbrev pub net_token_parts : List Part
net_token_parts = number u32_max ∷ wire ∷ interest ∷ []

abbrev pub net_token_of : List (List ℕ) → Option Message
net_token_of rest = form net_token_parts DeclareToken rest

-- `untoken N` or `untoken N WIRE`, and its option, behind `net`
abbrev pub net_untoken_parts : List Part
net_untoken_parts = number u32_max ∷ wire_if ∷ interest ∷ []

abbrev pub net_untoken_of : List (List ℕ) → Option Message
net_untoken_of rest = form net_untoken_parts UndeclareToken rest

-- `declarefinal` and its option, behind `net`
abbrev pub declare_final_parts : List Part
declare_final_parts = interest ∷ []

abbrev pub declare_final_of : List (List ℕ) → Option Message
declare_final_of rest = form declare_final_parts DeclareFinal rest

-- `put BYTES` or `del`, and the options, behind `push WIRE`
abbrev pub push_parts : SampleKind → List Part
push_parts kind = push_body kind ∷ timestamp ∷ qos 0 Drop ∷ reliable ∷ source ∷ attachment ∷ []

abbrev pub push_made : WireExpr → (kind : SampleKind) → Maker (push_parts kind) Message
push_made w kind what time service flag origin beside =
    Push (record { wire = w; body = body_of [] (update_of what time origin beside); qos = service; reliable = flag })

abbrev pub push_value_of : WireExpr → SampleKind → List (List ℕ) → Option Message
push_value_of w kind rest = form (push_parts kind) (push_made w kind) rest

-- `put` or `del` and what follows, behind `push WIRE`
abbrev pub push_by : WireExpr → List ℕ → List (List ℕ) → Option Message
push_by w word rest =
    if bytes_eq word (codes "put") then push_value_of w put_kind rest else
    if bytes_eq word (codes "del") then push_value_of w delete_kind rest else None

-- `push WIRE put BYTES` and `push WIRE del`, behind `net`
unfoldable pub push_of : List (List ℕ) → Option Message
push_of rest = option_and_then (λ found. by_word (push_by found.0) found.1) (read wire rest)

-- the timeout of a request that says none
abbrev pub request_timeout : ℕ
request_timeout = 10000

-- `request N WIRE` and its options, behind `net`
abbrev pub request_parts : List Part
request_parts =
    number u32_max ∷ wire ∷ parameters ∷ target ∷ consolidation ∷ timeout ∷ value ∷ qos 0 Block ∷ source ∷ attachment ∷ []

abbrev pub request_made : Maker request_parts Message
request_made n w text whom mode time given service origin beside = request_message (record {
  rid = n;
  wire = w;
  parameters = text;
  target = whom;
  consolidation = mode;
  timeout = unwrap_or time request_timeout;
  value = given;
  qos = service;
  source = origin;
  attachment = beside;
})

abbrev pub request_of : List (List ℕ) → Option Message
request_of rest = form request_parts request_made rest

-- what a get is told
abbrev pub responded : ℕ → WireExpr → Answered → QoSType → Option EntityGlobalId → Message
responded n w answered service who =
    response_message (record { rid = n; wire = w; answered = answered; qos = service; responder = who })

-- `put BYTES` or `del`, and the options, behind `response N WIRE`
abbrev pub response_parts : SampleKind → List Part
response_parts kind = push_body kind ∷ timestamp ∷ qos 0 Block ∷ source ∷ attachment ∷ responder ∷ []

abbrev pub response_made : ℕ → WireExpr → (kind : SampleKind) → Maker (response_parts kind) Message
response_made n w kind what time service origin beside who =
    responded n w (Reply (body_of [] (update_of what time origin beside))) service who

abbrev pub response_value_of : ℕ → WireExpr → SampleKind → List (List ℕ) → Option Message
response_value_of n w kind rest = form (response_parts kind) (response_made n w kind) rest

-- `BYTES` and its options, behind `response N WIRE err`
abbrev pub response_error_parts : List Part
response_error_parts = payload ∷ encoding ∷ qos 0 Block ∷ responder ∷ []

abbrev pub response_error_made : ℕ → WireExpr → Maker response_error_parts Message
response_error_made n w bytes text service who =
    responded n w (error_reply (record { payload = bytes; encoding = text })) service who

abbrev pub response_error_of : ℕ → WireExpr → List (List ℕ) → Option Message
response_error_of n w rest = form response_error_parts (response_error_made n w) rest

-- `put`, `del` or `err` and what follows, behind `response N WIRE`
abbrev pub response_by : ℕ → WireExpr → List ℕ → List (List ℕ) → Option Message
response_by n w word rest =
    if bytes_eq word (codes "put") then response_value_of n w put_kind rest else
    if bytes_eq word (codes "del") then response_value_of n w delete_kind rest else
    if bytes_eq word (codes "err") then response_error_of n w rest else None

-- `WIRE` and what follows, behind `response N`
unfoldable pub response_on : ℕ → List (List ℕ) → Option Message
response_on n rest = option_and_then (λ found. by_word (response_by n found.0) found.1) (read wire rest)

-- `response N WIRE put BYTES`, `response N WIRE del` and `response N WIRE err BYTES`, behind `net`
unfoldable pub response_of : List (List ℕ) → Option Message
response_of rest = option_and_then (λ found. response_on found.0 found.1) (read (number u32_max) rest)

-- `responsefinal N`, behind `net`
abbrev pub response_final_of : List (List ℕ) → Option Message
response_final_of rest = form (number_parts u32_max) ResponseFinal rest

-- `close`, behind `net`
abbrev pub net_close_of : List (List ℕ) → Option Message
net_close_of rest = form [] close_message rest

-- a message, behind `net`
abbrev pub message_by : List ℕ → List (List ℕ) → Option Message
message_by word rest =
    if bytes_eq word (codes "keyexpr") then key_expr_of rest else
    if bytes_eq word (codes "unkeyexpr") then unkey_expr_of rest else
    if bytes_eq word (codes "sub") then net_sub_of rest else
    if bytes_eq word (codes "unsub") then net_unsub_of rest else
    if bytes_eq word (codes "queryable") then net_queryable_of rest else
    if bytes_eq word (codes "unqueryable") then net_unqueryable_of rest else
    if bytes_eq word (codes "token") then net_token_of rest else
    if bytes_eq word (codes "untoken") then net_untoken_of rest else
    if bytes_eq word (codes "declarefinal") then declare_final_of rest else
    if bytes_eq word (codes "push") then push_of rest else
    if bytes_eq word (codes "request") then request_of rest else
    if bytes_eq word (codes "response") then response_of rest else
    if bytes_eq word (codes "responsefinal") then response_final_of rest else
    if bytes_eq word (codes "close") then net_close_of rest else None

unfoldable pub message_of : List (List ℕ) → Option Message
message_of rest = by_word message_by rest

-- `net MESSAGE`: a message that comes in
abbrev pub net_of : List (List ℕ) → Option Event
net_of rest = option_map Net (message_of rest)

-- an event of the session, by the first field of its line
abbrev pub core_by : List ℕ → List (List ℕ) → Option Event
core_by word rest =
    if bytes_eq word (codes "key") then declare_of rest else
    if bytes_eq word (codes "sub") then sub_of rest else
    if bytes_eq word (codes "pub") then pub_of rest else
    if bytes_eq word (codes "queryable") then queryable_of rest else
    if bytes_eq word (codes "querier") then querier_of rest else
    if bytes_eq word (codes "token") then token_of rest else
    if bytes_eq word (codes "lsub") then lsub_of rest else
    if bytes_eq word (codes "listen") then listen_of rest else
    if bytes_eq word (codes "status") then status_of rest else
    if bytes_eq word (codes "undeclare") then undeclare_of rest else
    if bytes_eq word (codes "background") then background_of rest else
    if bytes_eq word (codes "put") then publish_of put_kind rest else
    if bytes_eq word (codes "delete") then publish_of delete_kind rest else
    if bytes_eq word (codes "pput") then publish_by_of put_kind rest else
    if bytes_eq word (codes "pdel") then publish_by_of delete_kind rest else
    if bytes_eq word (codes "ctoken") then cancel_token_of rest else
    if bytes_eq word (codes "cancel") then cancel_of rest else
    if bytes_eq word (codes "get") then get_of rest else
    if bytes_eq word (codes "qget") then querier_get_of rest else
    if bytes_eq word (codes "lget") then liveliness_get_of rest else
    if bytes_eq word (codes "reply") then reply_of put_kind rest else
    if bytes_eq word (codes "replydel") then reply_of delete_kind rest else
    if bytes_eq word (codes "replyerr") then reply_error_of rest else
    if bytes_eq word (codes "share") then share_of rest else
    if bytes_eq word (codes "finish") then finish_of rest else
    if bytes_eq word (codes "tick") then tick_of rest else
    if bytes_eq word (codes "close") then close_of rest else
    if bytes_eq word (codes "net") then net_of rest else None

-- what a line says, by its first field: a read of a channel, or an event of the session
abbrev pub event_by : List ℕ → List (List ℕ) → Option ScriptEvent
event_by word rest = if bytes_eq word (codes "recv") then recv_of rest else option_map Core (core_by word rest)

abbrev pub event_of_fields : List (List ℕ) → Option ScriptEvent
event_of_fields rest = by_word event_by rest

-- what a line says: it is UTF-8 text, in fields separated by single tabs
unfoldable pub event_of : List ℕ → Option ScriptEvent
event_of line = if is_utf8 line then event_of_fields (fields line) else None
