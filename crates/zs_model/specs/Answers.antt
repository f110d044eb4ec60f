-- What answers to query values are: replies to gets of this session, or responses to requests from the network.
use Rattle.std.specs.Prelude.{ℕ, Bool, true, false, not, ◌||◌, is_some, List, Option, Some, None, unwrap_or, encode_utf8_all, if◌then◌else◌}
use Rattle.zs_keys.specs.Matching.{intersects}
use Rattle.zs_sample.specs.Reply.{Replied}
use Rattle.zs_wire.specs.Parameters.{trimmed_text, contains_name, any_key_name}
use Rattle.zs_wire.specs.declared.body.Body.{Body}
use Rattle.zs_wire.specs.declared.body.Value.{Value}
use Rattle.zs_wire.specs.declared.origin.EntityGlobalId.{EntityGlobalId}
use Rattle.zs_wire.specs.declared.quality.QoSType.{QoSType}
use Rattle.zs_wire.specs.declared.response.Answered.{Answered}
use Rattle.zs_wire.specs.declared.response.Response.{Response}
use Rattle.zs_wire.specs.declared.wire_expr.WireExpr.{WireExpr}
use Rattle.zs_query.specs.Types.{QueryValue, RequestRow, Finished, Unknown, MoreLeft, Last}
use Rattle.zs_query.specs.declared.side.Side.TheVariants.{Local}
use Rattle.zs_query.specs.Unfinished.{value_at, finished}
use Rattle.zs_query.specs.Asked.{News, Quiet, ReplyTo, FinalOf}
use Rattle.zs_events.specs.Kinds.{ToValues, AnswersBy, AnswersError, SharesValue, GivesBack}
use Rattle.zs_events.specs.declared.publication.ReplyQuality.{ReplyQuality}
use Rattle.zs_model.specs.Replies.{reply_on, error_on}

-- the qualities of a reply: those that it names, and for the others the query's
abbrev pub quality_of : ReplyQuality → QoSType → QoSType
quality_of quality query = record {
  priority = unwrap_or quality.priority query.priority;
  congestion = unwrap_or quality.congestion query.congestion;
  express = unwrap_or quality.express query.express;
}

-- who replies: a queryable of this session
abbrev pub replier_of : ℕ → ℕ → EntityGlobalId
replier_of zid queryable = record { zid = zid; eid = queryable }

-- a queryable's reply to a request of this session on a text, and its error
abbrev pub local_reply : ℕ → ℕ → RequestRow → ReplyQuality → Body → List ℕ → Replied
local_reply zid queryable row quality body text = reply_on text (quality_of quality row.qos) (Some (replier_of zid queryable)) body

abbrev pub local_error : ℕ → ℕ → Value → Replied
local_error zid queryable error = error_on (Some (replier_of zid queryable)) error

-- its response to a request from the network, with the key in this form
abbrev pub response_by : ℕ → ℕ → ℕ → WireExpr → QoSType → Answered → Response
response_by zid queryable rid wire qos answered = record {
  rid = rid;
  wire = wire;
  answered = answered;
  qos = qos;
  responder = Some (replier_of zid queryable);
}

-- whether a request takes no reply on a text: the text doesn't meet its key, and its parameters don't say that any key is taken
abbrev pub is_refused_on : List ℕ → RequestRow → Bool
is_refused_on text row =
    not (contains_name any_key_name (trimmed_text (encode_utf8_all row.parameters)) || intersects row.key.text text)

abbrev pub is_disjoint_from : Option QueryValue → Option (List ℕ) → Bool
is_disjoint_from None text = false
is_disjoint_from (Some v) None = false
is_disjoint_from (Some v) (Some text) = is_refused_on text v.row

-- whether an event is a reply on a key that its query doesn't take, where these values are unfinished
abbrev pub is_disjoint : List QueryValue → ToValues → Option (List ℕ) → Bool
is_disjoint values (AnswersBy value body quality) text = is_disjoint_from (value_at value values) text
is_disjoint values to text = false

-- whether the query value that an event names is unfinished, if it names one
abbrev pub is_owed : List QueryValue → ToValues → Bool
is_owed values (AnswersBy value body quality) = is_some (value_at value values)
is_owed values (AnswersError value error) = is_some (value_at value values)
is_owed values (SharesValue value) = is_some (value_at value values)
is_owed values (GivesBack value) = is_some (value_at value values)
is_owed values to = true

-- what gets hear of a reply to a query value, on this text: a reply to a get of this session
abbrev pub news_of_reply : ℕ → ReplyQuality → Body → Option QueryValue → Option (List ℕ) → News
news_of_reply zid quality body None text = Quiet
news_of_reply zid quality body (Some v) None = Quiet
news_of_reply zid quality body (Some v) (Some text) =
    if v.row.local then ReplyTo v.row.rid (local_reply zid v.queryable v.row quality body text) else Quiet

-- and of a value that is given back: the last one of a get's request is this session's final
abbrev pub news_of_finished : Finished → News
news_of_finished Unknown = Quiet
news_of_finished MoreLeft = Quiet
news_of_finished (Last row) = if row.local then FinalOf row.rid Local else Quiet

-- what gets hear of what an event does with query values, where these are unfinished
abbrev pub news_by_value : ℕ → List QueryValue → ToValues → Option (List ℕ) → News
news_by_value zid values (AnswersBy value body quality) text = news_of_reply zid quality body (value_at value values) text
news_by_value zid values (GivesBack value) text = news_of_finished (finished (value_at value values) values)
news_by_value zid values to text = Quiet
