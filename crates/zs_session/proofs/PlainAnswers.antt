-- What is done with query values tells of no refusal and no sample handed to a subscriber, and its texts are plain.
use Rattle.std.proofs.Common.{◌≡◌, ℕ, List, [], ◌∷◌, Bool, true, false, ◌&&◌, ◌==◌, Option, Some, None, IfSome, refl}
use Rattle.std.specs.Prelude.{chars, if◌then◌else◌}
use Rattle.std.specs.List.{AllByRecursion}
use Rattle.std.proofs.lemmas.Bool.{and_from}
use Rattle.zs_wire.specs.declared.body.Body.{Body}
use Rattle.zs_wire.specs.declared.body.Value.{Value}
use Rattle.zs_wire.specs.declared.message.Message.TheVariants.{Response as response_message, ResponseFinal}
use Rattle.zs_wire.specs.declared.response.Answered.TheVariants.{Reply, Err as Error}
use Rattle.zs_wire.specs.declared.wire_expr.WireExpr.{WireExpr}
use Rattle.zs_sample.specs.Reply.{Replied}
use Rattle.zs_query.specs.declared.open_get.OpenGet.{OpenGet}
use Rattle.zs_query.specs.Types.{QueryValue, Finished, Unknown, MoreLeft, Last}
use Rattle.zs_query.specs.declared.side.Side.TheVariants.{Local}
use Rattle.zs_query.specs.Gets.{get_at, peek_at, final_outcome}
use Rattle.zs_query.specs.Unfinished.{value_at, finished}
use Rattle.zs_events.specs.declared.turn.Effect.TheVariants.{Send}
use Rattle.zs_events.specs.Kinds.{NamedKey, ToValues, NoValue, Requested, AnswersBy, AnswersError, SharesValue, GivesBack}
use Rattle.zs_events.specs.declared.publication.ReplyQuality.{ReplyQuality}
use Rattle.zs_core.specs.Sends.{full_wire, wire_form, declaration_of}
use Rattle.zs_core.specs.GetEffects.{final_effects}
use Rattle.zs_core.specs.Answers.{quality_of, replier_of, local_reply, local_error, response_by}
use Rattle.zs_core.specs.ValueEffects.{Answering, requested_effects, error_effects, replied_effects, reply_for_value, answer_effects, answer_error_effects, finish_effects, value_effects}
use Rattle.zs_script.specs.Plain.{is_plain_text}
use Rattle.zs_session.proofs.PlainKeys.{IsText, plain_encoding, found_all}
use Rattle.zs_session.proofs.PlainSends.{AreQuiet, AreTexts, chars_plain, wire_plain}
use Rattle.zs_session.proofs.PlainValues.{PlainToValues, PlainValue, queries_quiet}
use Rattle.zs_session.proofs.PlainGets.{PlainGet, reply_plain, reply_quiet, final_quiet}

requested_quiet : (rid : ℕ) (values : List QueryValue) → AllByRecursion PlainValue values → AreQuiet (requested_effects rid values)
requested_quiet rid [] all = (refl, tt)
requested_quiet rid (v ∷ values) all = queries_quiet (v ∷ values) all

-- a reply to a get of this session, or its response to a request from the network
value_reply_quiet : (a : Answering) (key : NamedKey) (v : QueryValue) (quality : ReplyQuality) (body : Body) (text : List ℕ) → AreTexts a.keys → IsText text
    → is_plain_text body.encoding ≡ true → AreQuiet (reply_for_value a key v.queryable v.row quality body text)
value_reply_quiet a key v quality body text texts named plain = go v.row.local
  where
    reply : Replied
    reply = local_reply a.zid v.queryable v.row quality body text

    wire : WireExpr
    wire = wire_form a.keys text (declaration_of a.keys text key)

    go : (b : Bool) → AreQuiet (if b then replied_effects a.gets v.row.rid reply
        else Send (response_message (response_by a.zid v.queryable v.row.rid wire (quality_of quality v.row.qos) (Reply body))) ∷ [])
    go true =
        reply_quiet (peek_at (get_at v.row.rid a.gets) reply) v.row.rid reply
        (reply_plain text (quality_of quality v.row.qos) (Some (replier_of a.zid v.queryable)) body named plain)
    go false = (
      and_from (is_plain_text wire.suffix) (is_plain_text body.encoding && true) (wire_plain a.keys text (declaration_of a.keys text key) texts named)
          (and_from (is_plain_text body.encoding) true plain refl),
      tt,
    )

answer_quiet : (a : Answering) (key : NamedKey) (o : Option QueryValue) (quality : ReplyQuality) (body : Body) (text : Option (List ℕ)) → AreTexts a.keys → IfSome text IsText
    → is_plain_text body.encoding ≡ true → AreQuiet (answer_effects a key o quality body text)
answer_quiet a key None quality body text texts named plain = tt
answer_quiet a key (Some v) quality body None texts named plain = tt
answer_quiet a key (Some v) quality body (Some text) texts named plain = value_reply_quiet a key v quality body text texts named plain

-- an error for a get of this session, or its response
open_error_quiet : (a : Answering) (v : QueryValue) (error : Value) (o : Option OpenGet) → is_plain_text error.encoding ≡ true
    → AreQuiet (error_effects o v.row.rid (local_error a.zid v.queryable error))
open_error_quiet a v error None plain = tt
open_error_quiet a v error (Some g) plain = (plain_encoding error.encoding plain, tt)

error_quiet : (a : Answering) (o : Option QueryValue) (error : Value) → IfSome o PlainValue → is_plain_text error.encoding ≡ true
    → AreQuiet (answer_error_effects a o error)
error_quiet a None error drew plain = tt
error_quiet a (Some v) error drew plain = go v.row.local
  where
    go : (b : Bool) → AreQuiet (if b then error_effects (get_at v.row.rid a.gets) v.row.rid (local_error a.zid v.queryable error)
        else Send (response_message (response_by a.zid v.queryable v.row.rid (full_wire v.row.key.text) v.row.qos (Error error))) ∷ [])
    go true = open_error_quiet a v error (get_at v.row.rid a.gets) plain
    go false = (
      and_from (is_plain_text (chars v.row.key.text)) (is_plain_text error.encoding && true) (chars_plain v.row.key.text drew.0)
          (and_from (is_plain_text error.encoding) true plain refl),
      tt,
    )

-- a value that is given back
finish_quiet : (gets : List OpenGet) (f : Finished) → AllByRecursion PlainGet gets → AreQuiet (finish_effects gets f)
finish_quiet gets Unknown all = tt
finish_quiet gets MoreLeft all = tt
finish_quiet gets (Last row) all = go row.local
  where
    go : (b : Bool) → AreQuiet (if b then final_effects row.rid (final_outcome Local (get_at row.rid gets)) else Send (ResponseFinal row.rid) ∷ [])
    go true = final_quiet Local row.rid (get_at row.rid gets) (found_all PlainGet (λ g. g.row.number == row.rid) gets all)
    go false = (refl, tt)

-- all that an event brings about for query values
pub value_quiet : (a : Answering) (key : NamedKey) (drew : List QueryValue) (text : Option (List ℕ)) (does : ToValues) → AreTexts a.keys → AllByRecursion PlainGet a.gets
    → AllByRecursion PlainValue a.values → AllByRecursion PlainValue drew → IfSome text IsText → PlainToValues does → AreQuiet (value_effects a key drew text does)
value_quiet a key drew text NoValue texts gets values all named plain = tt
value_quiet a key drew text (Requested request) texts gets values all named plain = requested_quiet request.rid drew all
value_quiet a key drew text (AnswersBy value body quality) texts gets values all named plain =
    answer_quiet a key (value_at value a.values) quality body text texts named plain
value_quiet a key drew text (AnswersError value error) texts gets values all named plain =
    error_quiet a (value_at value a.values) error (found_all PlainValue (λ v. v.value == value) a.values values) plain
value_quiet a key drew text (SharesValue value) texts gets values all named plain = tt
value_quiet a key drew text (GivesBack value) texts gets values all named plain = finish_quiet a.gets (finished (value_at value a.values) a.values) gets
