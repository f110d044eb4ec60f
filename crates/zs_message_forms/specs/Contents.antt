-- The texts and bytes of messages and of what is handed over.
use Rattle.std.specs.Prelude.{ℕ, ◌==◌, if◌then◌else◌, List, [], length, Option, None, Some, Result, encode_utf8_all}
use Rattle.std.specs.declared.result.Result.TheVariants.{Ok, Err}
use Rattle.zs_bytes.specs.Payload.{bytes_of}
use Rattle.zs_wire.specs.declared.body.Body.{Body}
use Rattle.zs_wire.specs.declared.body.Value.{Value}
use Rattle.zs_wire.specs.declared.message.Message.{Message}
use Rattle.zs_wire.specs.declared.message.Message.TheVariants.{DeclareKeyExpr, UndeclareKeyExpr, DeclareSubscriber, UndeclareSubscriber, DeclareQueryable, UndeclareQueryable, DeclareToken, UndeclareToken, DeclareFinal, Interest, Push, Request, Response, ResponseFinal, Close}
use Rattle.zs_wire.specs.declared.request.Request.{Request as Query_message}
use Rattle.zs_wire.specs.declared.response.Answered.{Answered}
use Rattle.zs_wire.specs.declared.response.Answered.TheVariants.{Reply as replied, Err as failed}
use Rattle.zs_wire.specs.declared.wire_expr.WireExpr.{WireExpr}
use Rattle.zs_sample.specs.ErrorFields.{ErrorFields}
use Rattle.zs_sample.specs.declared.sample_fields.SampleFields.{SampleFields}
use Rattle.zs_query.specs.QueryData.{Query}
use Rattle.zs_events.specs.declared.turn.Effect.{Effect}
use Rattle.zs_events.specs.declared.turn.Effect.TheVariants.{Send, Hand, End, Matching}
use Rattle.zs_events.specs.declared.turn.HandOver.{HandOver}
use Rattle.zs_events.specs.declared.turn.HandOver.TheVariants.{Sample, Reply, Query as query_over}
use Rattle.zs_message_forms.specs.declared.forms.Lengths.{Lengths}

-- the bytes of each part
pub record Contents : Type 0 where
  pub key : List ℕ
  pub payload : List ℕ
  pub encoding : List ℕ
  pub parameters : List ℕ
  pub attachment : List ℕ

abbrev pub nothing : Contents
nothing = record { key = []; payload = []; encoding = []; parameters = []; attachment = [] }

-- the bytes of a payload, if there is one
abbrev pub bytes_in : Option (List (List ℕ)) → List ℕ
bytes_in (Some slices) = bytes_of slices
bytes_in None = []

-- the bytes of a text, if there is one
abbrev pub text_bytes : Option (List ℕ) → List ℕ
text_bytes (Some text) = encode_utf8_all text
text_bytes None = []

-- how many bytes each part has, and the part of a number
abbrev pub lengths_of : Contents → Lengths
lengths_of c = record {
  key = length c.key;
  payload = length c.payload;
  encoding = length c.encoding;
  parameters = length c.parameters;
  attachment = length c.attachment;
}

abbrev pub part_of : ℕ → Contents → List ℕ
part_of n c =
    if n == 1 then c.key else
    if n == 2 then c.payload else
    if n == 3 then c.encoding else
    if n == 4 then c.parameters else
    if n == 5 then c.attachment else []

-- the parts of a key, of a key that may not be named, and of what is said of a key
abbrev pub wire_parts : WireExpr → Contents
wire_parts wire = record nothing { key = encode_utf8_all wire.suffix }

abbrev pub named_parts : Option WireExpr → Contents
named_parts (Some wire) = wire_parts wire
named_parts None = nothing

abbrev pub body_parts : WireExpr → Body → Contents
body_parts wire body = record {
  key = encode_utf8_all wire.suffix;
  payload = bytes_of body.payload;
  encoding = encode_utf8_all body.encoding;
  parameters = [];
  attachment = bytes_in body.attachment;
}

-- those of a query, and of a response
abbrev pub value_parts : Query_message → Option Value → Contents
value_parts q (Some value) = record {
  key = encode_utf8_all q.wire.suffix;
  payload = bytes_of value.payload;
  encoding = encode_utf8_all value.encoding;
  parameters = encode_utf8_all q.parameters;
  attachment = bytes_in q.attachment;
}
value_parts q None = record {
  key = encode_utf8_all q.wire.suffix;
  payload = [];
  encoding = [];
  parameters = encode_utf8_all q.parameters;
  attachment = bytes_in q.attachment;
}

abbrev pub answered_parts : WireExpr → Answered → Contents
answered_parts wire (replied body) = body_parts wire body
answered_parts wire (failed value) = record {
  key = encode_utf8_all wire.suffix;
  payload = bytes_of value.payload;
  encoding = encode_utf8_all value.encoding;
  parameters = [];
  attachment = [];
}

-- those of a message
unfoldable pub message_parts : Message → Contents
message_parts (DeclareKeyExpr number wire) = wire_parts wire
message_parts (UndeclareKeyExpr number) = nothing
message_parts (DeclareSubscriber id wire) = wire_parts wire
message_parts (UndeclareSubscriber id) = nothing
message_parts (DeclareQueryable id complete wire) = wire_parts wire
message_parts (UndeclareQueryable id) = nothing
message_parts (DeclareToken id wire interest) = wire_parts wire
message_parts (UndeclareToken id wire interest) = named_parts wire
message_parts (DeclareFinal interest) = nothing
message_parts (Interest id mode what wire) = named_parts wire
message_parts (Push push) = body_parts push.wire push.body
message_parts (Request request) = value_parts request request.value
message_parts (Response response) = answered_parts response.wire response.answered
message_parts (ResponseFinal id) = nothing
message_parts Close = nothing

-- those of what is handed over
abbrev pub sample_parts : SampleFields → Contents
sample_parts s = record {
  key = s.key_expr.text;
  payload = bytes_of s.payload;
  encoding = encode_utf8_all s.encoding;
  parameters = [];
  attachment = bytes_in s.attachment;
}

abbrev pub reply_parts : Result SampleFields ErrorFields → Contents
reply_parts (Ok sample) = sample_parts sample
reply_parts (Err error) = record nothing { payload = bytes_of error.payload; encoding = encode_utf8_all error.encoding }

abbrev pub query_parts : Query → Contents
query_parts q = record {
  key = q.key_expr.text;
  payload = bytes_in q.payload;
  encoding = text_bytes q.encoding;
  parameters = q.parameters;
  attachment = bytes_in q.attachment;
}

abbrev pub hand_parts : HandOver → Contents
hand_parts (Sample kind id sample) = sample_parts sample
hand_parts (Reply kind id reply) = reply_parts reply.result
hand_parts (query_over id value query) = query_parts query

-- those of an effect
unfoldable pub effect_parts : Effect → Contents
effect_parts (Send message) = message_parts message
effect_parts (Hand item) = hand_parts item
effect_parts (End kind id) = nothing
effect_parts (Matching id matching) = nothing
