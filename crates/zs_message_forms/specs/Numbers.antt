-- The numbers of messages and of what is handed over.
use Rattle.std.specs.Prelude.{ℕ, Bool, true, false, Option, None, Some, Result, is_some}
use Rattle.std.specs.declared.result.Result.TheVariants.{Ok, Err}
use Rattle.zs_wire.specs.declared.body.Body.{Body}
use Rattle.zs_wire.specs.declared.interest.InterestMode.{InterestMode}
use Rattle.zs_wire.specs.declared.interest.InterestMode.TheVariants.{Current, Future, CurrentFuture, Final}
use Rattle.zs_wire.specs.declared.interest.InterestWhat.{InterestWhat}
use Rattle.zs_wire.specs.declared.interest.InterestWhat.TheVariants.{Subscribers, Queryables, Tokens, Nothing}
use Rattle.zs_wire.specs.declared.message.Message.{Message}
use Rattle.zs_wire.specs.declared.message.Message.TheVariants.{DeclareKeyExpr, UndeclareKeyExpr, DeclareSubscriber, UndeclareSubscriber, DeclareQueryable, UndeclareQueryable, DeclareToken, UndeclareToken, DeclareFinal, Interest, Push as published, Request as asked, Response as answered, ResponseFinal, Close}
use Rattle.zs_wire.specs.declared.push.Push.{Push}
use Rattle.zs_wire.specs.declared.quality.CongestionControl.{CongestionControl}
use Rattle.zs_wire.specs.declared.quality.CongestionControl.TheVariants.{Drop, Block}
use Rattle.zs_wire.specs.declared.quality.QoSType.{QoSType}
use Rattle.zs_wire.specs.declared.request.ConsolidationMode.{ConsolidationMode}
use Rattle.zs_wire.specs.declared.request.ConsolidationMode.TheVariants as replies
use Rattle.zs_wire.specs.declared.request.QueryTarget.{QueryTarget}
use Rattle.zs_wire.specs.declared.request.QueryTarget.TheVariants.{BestMatching, All, AllComplete}
use Rattle.zs_wire.specs.declared.request.Request.{Request}
use Rattle.zs_wire.specs.declared.response.Answered.{Answered}
use Rattle.zs_wire.specs.declared.response.Answered.TheVariants.{Reply as replied, Err as failed}
use Rattle.zs_wire.specs.declared.response.Response.{Response}
use Rattle.zs_wire.specs.declared.sample_kind.SampleKind.{SampleKind}
use Rattle.zs_wire.specs.declared.sample_kind.SampleKind.TheVariants.{Put, Delete}
use Rattle.zs_wire.specs.declared.wire_expr.Mapping.{Mapping}
use Rattle.zs_wire.specs.declared.wire_expr.Mapping.TheVariants.{Sender, Receiver}
use Rattle.zs_wire.specs.declared.wire_expr.WireExpr.{WireExpr}
use Rattle.zs_sample.specs.ErrorFields.{ErrorFields}
use Rattle.zs_sample.specs.Quality.{number_of, priority_of}
use Rattle.zs_sample.specs.Reply.{Replied}
use Rattle.zs_sample.specs.declared.quality.Reliability.{Reliability}
use Rattle.zs_sample.specs.declared.quality.Reliability.TheVariants.{BestEffort, Reliable}
use Rattle.zs_sample.specs.declared.sample_fields.SampleFields.{SampleFields}
use Rattle.zs_query.specs.QueryData.{Query}
use Rattle.zs_events.specs.declared.turn.Effect.{Effect}
use Rattle.zs_events.specs.declared.turn.Effect.TheVariants.{Send, Hand, End, Matching}
use Rattle.zs_events.specs.declared.turn.HandOver.{HandOver}
use Rattle.zs_events.specs.declared.turn.HandOver.TheVariants.{Sample, Reply, Query as query_over}
use Rattle.zs_forms.specs.Kinds.{kind_number}
use Rattle.zs_forms.specs.Origins.{timestamp_form, source_form, entity_form}
use Rattle.zs_message_forms.specs.Contents.{lengths_of, effect_parts}
use Rattle.zs_message_forms.specs.declared.forms.EffectForm.{EffectForm}
use Rattle.zs_message_forms.specs.declared.forms.MessageForm.{MessageForm}

-- all of it 0
abbrev pub no_form : MessageForm
no_form = record {
  kind = 0;
  key_number = 0;
  id = 0;
  has_key = false;
  scope = 0;
  by_receiver = false;
  complete = false;
  has_interest = false;
  interest = 0;
  mode = 0;
  what = 0;
  deletes = false;
  is_error = false;
  has_value = false;
  has_attachment = false;
  priority = 0;
  blocks = false;
  express = false;
  reliable = false;
  target = 0;
  consolidation = 0;
  timeout = 0;
  timestamp = timestamp_form None;
  source = source_form None;
  responder = entity_form None;
}

-- the flags of small choices
abbrev pub is_receiver : Mapping → Bool
is_receiver Sender = false
is_receiver Receiver = true

abbrev pub is_block : CongestionControl → Bool
is_block Drop = false
is_block Block = true

abbrev pub is_delete : SampleKind → Bool
is_delete Put = false
is_delete Delete = true

abbrev pub is_reliable : Reliability → Bool
is_reliable BestEffort = false
is_reliable Reliable = true

-- and the numbers of larger ones
abbrev pub mode_number : InterestMode → ℕ
mode_number Current = 0
mode_number Future = 1
mode_number CurrentFuture = 2
mode_number Final = 3

abbrev pub what_number : InterestWhat → ℕ
what_number Subscribers = 0
what_number Queryables = 1
what_number Tokens = 2
what_number Nothing = 3

abbrev pub target_number : QueryTarget → ℕ
target_number BestMatching = 0
target_number All = 1
target_number AllComplete = 2

abbrev pub consolidation_number : ConsolidationMode → ℕ
consolidation_number replies.Auto = 0
consolidation_number replies.None = 1
consolidation_number replies.Monotonic = 2
consolidation_number replies.Latest = 3

-- a kind with a number
abbrev pub numbered : ℕ → ℕ → MessageForm
numbered kind id = record no_form { kind = kind; id = id }

-- a form with a key, with a key that may not be named, and with an interest that may not be
abbrev pub keyed : MessageForm → WireExpr → MessageForm
keyed f wire = record f { scope = wire.scope; by_receiver = is_receiver wire.mapping }

abbrev pub named : MessageForm → Option WireExpr → MessageForm
named f (Some wire) = record (keyed f wire) { has_key = true }
named f None = f

abbrev pub of_interest : MessageForm → Option ℕ → MessageForm
of_interest f (Some n) = record f { has_interest = true; interest = n }
of_interest f None = f

-- with a quality of service, and with what is said of a key
abbrev pub of_quality : MessageForm → QoSType → MessageForm
of_quality f qos = record f { priority = qos.priority; blocks = is_block qos.congestion; express = qos.express }

abbrev pub of_body : MessageForm → Body → MessageForm
of_body f body = record f {
  deletes = is_delete body.kind;
  has_attachment = is_some body.attachment;
  timestamp = timestamp_form body.timestamp;
  source = source_form body.source;
}

-- publications, queries and responses
abbrev pub push_form : Push → MessageForm
push_form p = record (of_body (of_quality (keyed (numbered 11 0) p.wire) p.qos) p.body) { reliable = p.reliable }

abbrev pub request_form : Request → MessageForm
request_form r = record (of_quality (keyed (numbered 12 r.rid) r.wire) r.qos) {
  has_value = is_some r.value;
  has_attachment = is_some r.attachment;
  target = target_number r.target;
  consolidation = consolidation_number r.consolidation;
  timeout = r.timeout;
  source = source_form r.source;
}

abbrev pub answered_form : MessageForm → Answered → MessageForm
answered_form f (replied body) = of_body f body
answered_form f (failed value) = record f { is_error = true }

abbrev pub response_form : Response → MessageForm
response_form r = record (answered_form (of_quality (keyed (numbered 13 r.rid) r.wire) r.qos) r.answered) {
  responder = entity_form r.responder;
}

-- the numbers of a message
unfoldable pub message_form : Message → MessageForm
message_form (DeclareKeyExpr number wire) = record (keyed (numbered 1 0) wire) { key_number = number }
message_form (UndeclareKeyExpr number) = record (numbered 2 0) { key_number = number }
message_form (DeclareSubscriber id wire) = keyed (numbered 3 id) wire
message_form (UndeclareSubscriber id) = numbered 4 id
message_form (DeclareQueryable id complete wire) = record (keyed (numbered 5 id) wire) { complete = complete }
message_form (UndeclareQueryable id) = numbered 6 id
message_form (DeclareToken id wire interest) = of_interest (keyed (numbered 7 id) wire) interest
message_form (UndeclareToken id wire interest) = of_interest (named (numbered 8 id) wire) interest
message_form (DeclareFinal interest) = of_interest (numbered 9 0) interest
message_form (Interest id mode what wire) =
    record (named (numbered 10 id) wire) { mode = mode_number mode; what = what_number what }
message_form (published push) = push_form push
message_form (asked request) = request_form request
message_form (answered response) = response_form response
message_form (ResponseFinal id) = numbered 14 id
message_form Close = numbered 15 0

-- the numbers of what is handed over
abbrev pub sample_form : SampleFields → MessageForm
sample_form s = record no_form {
  deletes = is_delete s.kind;
  has_attachment = is_some s.attachment;
  priority = number_of s.priority;
  blocks = is_block s.congestion_control;
  express = s.express;
  reliable = is_reliable s.reliability;
  timestamp = timestamp_form s.timestamp;
  source = source_form s.source_info;
}

abbrev pub result_form : Result SampleFields ErrorFields → MessageForm
result_form (Ok sample) = sample_form sample
result_form (Err error) = record no_form { is_error = true }

abbrev pub reply_form : Replied → MessageForm
reply_form r = record (result_form r.result) { responder = entity_form r.replier }

abbrev pub query_form : Query → MessageForm
query_form q = record no_form {
  has_value = is_some q.payload;
  has_attachment = is_some q.attachment;
  priority = number_of (priority_of q.qos.priority);
  blocks = is_block q.qos.congestion;
  express = q.qos.express;
  source = source_form q.source;
}

-- an effect, but for the lengths of its parts
abbrev pub told : ℕ → ℕ → ℕ → MessageForm → Effect → EffectForm
told kind entity id message effect = record {
  kind = kind;
  entity = entity;
  id = id;
  query = 0;
  matching = false;
  message = message;
  lengths = lengths_of (effect_parts effect);
}

abbrev pub hand_form : HandOver → Effect → EffectForm
hand_form (Sample kind id sample) e = told 2 (kind_number kind) id (sample_form sample) e
hand_form (Reply kind id reply) e = told 3 (kind_number kind) id (reply_form reply) e
hand_form (query_over id value query) e = record (told 4 4 id (query_form query) e) { query = value }

-- the numbers of an effect
abbrev pub effect_by : Effect → Effect → EffectForm
effect_by (Send message) e = told 1 0 0 (message_form message) e
effect_by (Hand item) e = hand_form item e
effect_by (End kind id) e = told 5 (kind_number kind) id no_form e
effect_by (Matching id matching) e = record (told 6 7 id no_form e) { matching = matching }

unfoldable pub effect_form : Effect → EffectForm
effect_form e = effect_by e e
