-- Messages from plain numbers and bytes.
use Rattle.std.specs.Prelude.{ℕ, ◌==◌, if◌then◌else◌, List, Option, None, Some}
use Rattle.zs_wire.specs.declared.body.Body.{Body}
use Rattle.zs_wire.specs.declared.body.Value.{Value}
use Rattle.zs_wire.specs.declared.interest.InterestMode.{InterestMode}
use Rattle.zs_wire.specs.declared.interest.InterestMode.TheVariants.{Current, Future, CurrentFuture, Final}
use Rattle.zs_wire.specs.declared.interest.InterestWhat.{InterestWhat}
use Rattle.zs_wire.specs.declared.interest.InterestWhat.TheVariants.{Subscribers, Queryables, Tokens, Nothing}
use Rattle.zs_wire.specs.declared.message.Message.{Message}
use Rattle.zs_wire.specs.declared.message.Message.TheVariants.{DeclareKeyExpr, UndeclareKeyExpr, DeclareSubscriber, UndeclareSubscriber, DeclareQueryable, UndeclareQueryable, DeclareToken, UndeclareToken, DeclareFinal, Interest, Push, Request, Response, ResponseFinal, Close}
use Rattle.zs_wire.specs.declared.request.ConsolidationMode.{ConsolidationMode}
use Rattle.zs_wire.specs.declared.request.QueryTarget.{QueryTarget}
use Rattle.zs_wire.specs.declared.response.Answered.{Answered}
use Rattle.zs_wire.specs.declared.response.Answered.TheVariants.{Reply, Err}
use Rattle.zs_wire.specs.declared.wire_expr.WireExpr.{WireExpr}
use Rattle.zs_forms.specs.Origins.{entity_of, source_of}
use Rattle.zs_forms.specs.Questions.{target_of, consolidation_of, value_of, told_of}
use Rattle.zs_forms.specs.Texts.{text_in}
use Rattle.zs_forms.specs.Updates.{attachment_of}
use Rattle.zs_message_forms.specs.Parts.{wire_of, named_of, interest_of, message_qos, body_of}
use Rattle.zs_message_forms.specs.declared.forms.MessageForm.{MessageForm}
use Rattle.zs_message_forms.specs.declared.forms.PartsForm.{PartsForm}

-- declarations on a key
abbrev pub key_with : MessageForm → Option WireExpr → Option Message
key_with f (Some wire) = Some (DeclareKeyExpr f.key_number wire)
key_with f None = None

abbrev pub key_of : MessageForm → PartsForm → Option Message
key_of f p = key_with f (wire_of f p)

abbrev pub subscriber_with : MessageForm → Option WireExpr → Option Message
subscriber_with f (Some wire) = Some (DeclareSubscriber f.id wire)
subscriber_with f None = None

abbrev pub subscriber_of : MessageForm → PartsForm → Option Message
subscriber_of f p = subscriber_with f (wire_of f p)

abbrev pub queryable_with : MessageForm → Option WireExpr → Option Message
queryable_with f (Some wire) = Some (DeclareQueryable f.id f.complete wire)
queryable_with f None = None

abbrev pub queryable_of : MessageForm → PartsForm → Option Message
queryable_of f p = queryable_with f (wire_of f p)

abbrev pub token_with : MessageForm → Option WireExpr → Option Message
token_with f (Some wire) = Some (DeclareToken f.id wire (interest_of f))
token_with f None = None

abbrev pub token_of : MessageForm → PartsForm → Option Message
token_of f p = token_with f (wire_of f p)

abbrev pub ended_token_with : MessageForm → Option (Option WireExpr) → Option Message
ended_token_with f (Some wire) = Some (UndeclareToken f.id wire (interest_of f))
ended_token_with f None = None

abbrev pub ended_token_of : MessageForm → PartsForm → Option Message
ended_token_of f p = ended_token_with f (named_of f p)

-- interests
abbrev pub mode_of : ℕ → Option InterestMode
mode_of n =
    if n == 0 then Some Current else
    if n == 1 then Some Future else
    if n == 2 then Some CurrentFuture else
    if n == 3 then Some Final else None

abbrev pub what_of : ℕ → Option InterestWhat
what_of n =
    if n == 0 then Some Subscribers else
    if n == 1 then Some Queryables else
    if n == 2 then Some Tokens else
    if n == 3 then Some Nothing else None

abbrev pub asked_with : MessageForm → Option InterestMode → Option InterestWhat → Option (Option WireExpr) → Option Message
asked_with f (Some mode) (Some what) (Some wire) = Some (Interest f.id mode what wire)
asked_with f (Some mode) (Some what) None = None
asked_with f (Some mode) None wire = None
asked_with f None what wire = None

abbrev pub asked_of : MessageForm → PartsForm → Option Message
asked_of f p = asked_with f (mode_of f.mode) (what_of f.what) (named_of f p)

-- publications
abbrev pub push_with : MessageForm → Option WireExpr → Option Body → Option Message
push_with f (Some wire) (Some body) = Some (Push (record { wire = wire; body = body; qos = message_qos f; reliable = f.reliable }))
push_with f (Some wire) None = None
push_with f None body = None

abbrev pub push_of : MessageForm → PartsForm → Option Message
push_of f p = push_with f (wire_of f p) (body_of f p)

-- queries
abbrev pub request_with : MessageForm → PartsForm → Option QueryTarget → Option ConsolidationMode → Option WireExpr → Option (List ℕ) → Option (Option Value) → Option Message
request_with f p (Some target) (Some consolidation) (Some wire) (Some parameters) (Some value) = Some (Request (record {
  rid = f.id;
  wire = wire;
  parameters = parameters;
  target = target;
  consolidation = consolidation;
  timeout = f.timeout;
  value = value;
  qos = message_qos f;
  source = source_of f.source;
  attachment = attachment_of f.has_attachment p.attachment.now;
}))
request_with f p (Some target) (Some consolidation) (Some wire) (Some parameters) None = None
request_with f p (Some target) (Some consolidation) (Some wire) None value = None
request_with f p (Some target) (Some consolidation) None parameters value = None
request_with f p (Some target) None wire parameters value = None
request_with f p None consolidation wire parameters value = None

abbrev pub request_of : MessageForm → PartsForm → Option Message
request_of f p = request_with f p (target_of f.target) (consolidation_of f.consolidation) (wire_of f p)
    (text_in p.parameters.now) (told_of f.has_value p.payload.now p.encoding.now)

-- responses
abbrev pub error_with : Option Value → Option Answered
error_with (Some value) = Some (Err value)
error_with None = None

abbrev pub reply_with : Option Body → Option Answered
reply_with (Some body) = Some (Reply body)
reply_with None = None

abbrev pub answered_of : MessageForm → PartsForm → Option Answered
answered_of f p =
    if f.is_error then error_with (value_of p.payload.now p.encoding.now) else reply_with (body_of f p)

abbrev pub response_with : MessageForm → Option WireExpr → Option Answered → Option Message
response_with f (Some wire) (Some answered) = Some (Response (record {
  rid = f.id;
  wire = wire;
  answered = answered;
  qos = message_qos f;
  responder = entity_of f.responder;
}))
response_with f (Some wire) None = None
response_with f None answered = None

abbrev pub response_of : MessageForm → PartsForm → Option Message
response_of f p = response_with f (wire_of f p) (answered_of f p)

-- the message of a number from 8 on
abbrev pub later_of : MessageForm → PartsForm → Option Message
later_of f p =
    if f.kind == 8 then ended_token_of f p else
    if f.kind == 9 then Some (DeclareFinal (interest_of f)) else
    if f.kind == 10 then asked_of f p else
    if f.kind == 11 then push_of f p else
    if f.kind == 12 then request_of f p else
    if f.kind == 13 then response_of f p else
    if f.kind == 14 then Some (ResponseFinal f.id) else
    if f.kind == 15 then Some Close else None

-- the message of any number
unfoldable pub message_of : MessageForm → PartsForm → Option Message
message_of f p =
    if f.kind == 1 then key_of f p else
    if f.kind == 2 then Some (UndeclareKeyExpr f.key_number) else
    if f.kind == 3 then subscriber_of f p else
    if f.kind == 4 then Some (UndeclareSubscriber f.id) else
    if f.kind == 5 then queryable_of f p else
    if f.kind == 6 then Some (UndeclareQueryable f.id) else
    if f.kind == 7 then token_of f p else later_of f p
