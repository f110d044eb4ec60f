-- What an accepted event brings about for query values.
use Rattle.std.specs.Prelude.{ℕ, List, [], ◌∷◌, map, is_some, Option, Some, None, if◌then◌else◌}
use Rattle.zs_wire.specs.declared.body.Body.{Body}
use Rattle.zs_wire.specs.declared.body.Value.{Value}
use Rattle.zs_wire.specs.declared.message.Message.TheVariants.{Response as response_message, ResponseFinal}
use Rattle.zs_wire.specs.declared.response.Answered.TheVariants.{Reply, Err as Error}
use Rattle.zs_query.specs.Types.{QueryValue, RequestRow, Finished, Unknown, MoreLeft, Last}
use Rattle.zs_query.specs.declared.open_get.OpenGet.{OpenGet}
use Rattle.zs_query.specs.declared.side.Side.TheVariants.{Local}
use Rattle.zs_query.specs.Gets.{get_at, peek_at, final_outcome}
use Rattle.zs_query.specs.Unfinished.{value_at, finished}
use Rattle.zs_sample.specs.Reply.{Replied}
use Rattle.zs_events.specs.declared.turn.Effect.{Effect}
use Rattle.zs_events.specs.declared.turn.Effect.TheVariants.{Send}
use Rattle.zs_events.specs.Kinds.{NamedKey, ToValues, NoValue, Requested, AnswersBy, AnswersError, SharesValue, GivesBack}
use Rattle.zs_events.specs.declared.publication.ReplyQuality.{ReplyQuality}
use Rattle.zs_model.specs.Sends.{OwnKeys, full_wire, wire_form, declaration_of}
use Rattle.zs_model.specs.GetEffects.{hand_reply, hand_query, reply_effects, final_effects}
use Rattle.zs_model.specs.Answers.{quality_of, local_reply, local_error, response_by}

-- a request from the network is handed out with these values; where there are none, its final is sent at once
abbrev pub requested_effects : ℕ → List QueryValue → List Effect
requested_effects rid [] = Send (ResponseFinal rid) ∷ []
requested_effects rid (v ∷ values) = map hand_query (v ∷ values)

-- an error for a get is handed on where that is open
abbrev pub error_effects : Option OpenGet → ℕ → Replied → List Effect
error_effects o number reply = if is_some o then hand_reply number reply ∷ [] else []

-- what is known where values are answered: the session's identifier, its declared keys, the open gets and the unfinished values
pub record Answering : Type 0 where
  pub zid : ℕ
  pub keys : OwnKeys
  pub gets : List OpenGet
  pub values : List QueryValue

-- a reply goes to its get where that is open and takes it, or is sent as a response to a request from the network
abbrev pub replied_effects : List OpenGet → ℕ → Replied → List Effect
replied_effects gets rid reply = reply_effects (peek_at (get_at rid gets) reply) rid reply

abbrev pub reply_for_value : Answering → NamedKey → ℕ → RequestRow → ReplyQuality → Body → List ℕ → List Effect
reply_for_value a key queryable row quality body text =
    if row.local then replied_effects a.gets row.rid (local_reply a.zid queryable row quality body text)
    else Send (response_message
    (response_by a.zid queryable row.rid (wire_form a.keys text (declaration_of a.keys text key)) (quality_of quality row.qos) (Reply body))) ∷ []

-- so does an error: its response has the query's key, and its qualities
abbrev pub error_for_value : Answering → ℕ → RequestRow → Value → List Effect
error_for_value a queryable row error =
    if row.local then error_effects (get_at row.rid a.gets) row.rid (local_error a.zid queryable error)
    else Send (response_message (response_by a.zid queryable row.rid (full_wire row.key.text) row.qos (Error error))) ∷ []

-- where there is such a value, and for a reply a text
abbrev pub answer_effects : Answering → NamedKey → Option QueryValue → ReplyQuality → Body → Option (List ℕ) → List Effect
answer_effects a key None quality body text = []
answer_effects a key (Some v) quality body None = []
answer_effects a key (Some v) quality body (Some text) = reply_for_value a key v.queryable v.row quality body text

abbrev pub answer_error_effects : Answering → Option QueryValue → Value → List Effect
answer_error_effects a None error = []
answer_error_effects a (Some v) error = error_for_value a v.queryable v.row error

-- the last value of a request that is given back is this session's final for its get, or sends the final of a request from the network
abbrev pub finish_effects : List OpenGet → Finished → List Effect
finish_effects gets Unknown = []
finish_effects gets MoreLeft = []
finish_effects gets (Last row) =
    if row.local then final_effects row.rid (final_outcome Local (get_at row.rid gets)) else Send (ResponseFinal row.rid) ∷ []

-- what an event brings about that does something with query values, given those that it draws and the text of its key
abbrev pub value_effects : Answering → NamedKey → List QueryValue → Option (List ℕ) → ToValues → List Effect
value_effects a key drawn text NoValue = []
value_effects a key drawn text (Requested request) = requested_effects request.rid drawn
value_effects a key drawn text (AnswersBy value body quality) = answer_effects a key (value_at value a.values) quality body text
value_effects a key drawn text (AnswersError value error) = answer_error_effects a (value_at value a.values) error
value_effects a key drawn text (SharesValue value) = []
value_effects a key drawn text (GivesBack value) = finish_effects a.gets (finished (value_at value a.values) a.values)

-- the same with what the event brings about beside, which is nothing where it has to do with query values
abbrev pub with_values : ToValues → List Effect → List Effect → List Effect
with_values NoValue others answers = others
with_values to others answers = answers
