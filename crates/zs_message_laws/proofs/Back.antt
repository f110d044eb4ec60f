-- Each message is read as it was told.
use Rattle.std.proofs.Common.{ℕ, ◌≡◌, true, [], ◌∷◌, Option, Some, None, is_some, option_map, refl, encode_utf8_all}
use Rattle.std.specs.List.{list_all}
use Rattle.std.specs.Str.{all_scalars}
use Rattle.std.proofs.lemmas.Bool.{and_parts}
use Rattle.zs_wire.specs.declared.body.Value.{Value}
use Rattle.zs_wire.specs.declared.message.Message.TheVariants.{DeclareKeyExpr, UndeclareKeyExpr, DeclareSubscriber, UndeclareSubscriber, DeclareQueryable, UndeclareQueryable, DeclareToken, UndeclareToken, DeclareFinal, Interest, Push as published, Request as asked, Response as answered, ResponseFinal, Close}
use Rattle.zs_wire.specs.declared.origin.EntityGlobalId.{EntityGlobalId}
use Rattle.zs_wire.specs.declared.quality.QoSType.{QoSType}
use Rattle.zs_wire.specs.declared.wire_expr.WireExpr.{WireExpr}
use Rattle.zs_wire.specs.declared.request.Request.{Request}
use Rattle.zs_wire.specs.declared.response.Answered.{Answered}
use Rattle.zs_wire.specs.declared.response.Answered.TheVariants.{Reply, Err}
use Rattle.zs_forms.specs.Questions.{told_of}
use Rattle.zs_message_forms.specs.Contents.{bytes_in, value_parts, answered_parts, message_parts}
use Rattle.zs_message_forms.specs.Messages.{message_of}
use Rattle.zs_message_forms.specs.Numbers.{message_form}
use Rattle.zs_message_laws.specs.Passing.{gathered_value, gathered_answered, value_texts, answered_encoding, IsLent, MessagesPass}
use Rattle.zs_message_forms.specs.declared.forms.PartsForm.{PartsForm}
use Rattle.zs_message_laws.proofs.ToldBack.{text-back, mapping-back, congestion-back, kind-back, mode-back, what-back, target-back, consolidation-back, attachment-back, timestamp-back, source-back, entity-back}

-- what a query is told, with the bytes that are lent beside it
told-back : (r : Request) (v : Option Value) (p : PartsForm) → list_all all_scalars (value_texts v) ≡ true → IsLent (value_parts r v) p
    → (told_of (is_some v) p.payload.now p.encoding.now ≡ Some (option_map gathered_value v))
    × ((p.key.now ≡ encode_utf8_all r.wire.suffix) × ((p.parameters.now ≡ encode_utf8_all r.parameters) × (p.attachment.now ≡ bytes_in r.attachment)))
told-back r None p h l = (refl, (l.key, (l.parameters, l.attachment)))
told-back r (Some v) p h l =
    (rw (text-back v.encoding p.encoding.now (and_parts _ _ h).0 l.encoding, l.payload) refl, (l.key, (l.parameters, l.attachment)))

-- a response
response-back : (rid : ℕ) (wire : WireExpr) (a : Answered) (qos : QoSType) (responder : Option EntityGlobalId) (p : PartsForm)
    → list_all all_scalars (wire.suffix ∷ answered_encoding a ∷ []) ≡ true → IsLent (answered_parts wire a) p
    → message_of (message_form (answered (record { rid = rid; wire = wire; answered = a; qos = qos; responder = responder }))) p
    ≡ Some (answered (record { rid = rid; wire = wire; answered = gathered_answered a; qos = qos; responder = responder }))
unfolding message_of message_form
response-back rid wire (Reply body) qos responder p h l =
    let texts = and_parts _ _ h in
    rw (
      text-back wire.suffix p.key.now texts.0 l.key,
      text-back body.encoding p.encoding.now (and_parts _ _ texts.1).0 l.encoding,
      l.payload,
      l.attachment,
      mapping-back wire.mapping,
      kind-back body.kind,
      timestamp-back body.timestamp,
      source-back body.source,
      attachment-back body.attachment,
      congestion-back qos.congestion,
      entity-back responder,
    ) refl
response-back rid wire (Err value) qos responder p h l =
    let texts = and_parts _ _ h in
    rw (
      text-back wire.suffix p.key.now texts.0 l.key,
      text-back value.encoding p.encoding.now (and_parts _ _ texts.1).0 l.encoding,
      l.payload,
      mapping-back wire.mapping,
      congestion-back qos.congestion,
      entity-back responder,
    ) refl

pub messages-pass : MessagesPass
unfolding message_of message_form message_parts
messages-pass (DeclareKeyExpr number wire) p h l =
    rw (text-back wire.suffix p.key.now (and_parts _ _ h).0 l.key, mapping-back wire.mapping) refl
messages-pass (UndeclareKeyExpr number) p h l = refl
messages-pass (DeclareSubscriber id wire) p h l =
    rw (text-back wire.suffix p.key.now (and_parts _ _ h).0 l.key, mapping-back wire.mapping) refl
messages-pass (UndeclareSubscriber id) p h l = refl
messages-pass (DeclareQueryable id complete wire) p h l =
    rw (text-back wire.suffix p.key.now (and_parts _ _ h).0 l.key, mapping-back wire.mapping) refl
messages-pass (UndeclareQueryable id) p h l = refl
messages-pass (DeclareToken id wire None) p h l =
    rw (text-back wire.suffix p.key.now (and_parts _ _ h).0 l.key, mapping-back wire.mapping) refl
messages-pass (DeclareToken id wire (Some interest)) p h l =
    rw (text-back wire.suffix p.key.now (and_parts _ _ h).0 l.key, mapping-back wire.mapping) refl
messages-pass (UndeclareToken id None None) p h l = refl
messages-pass (UndeclareToken id None (Some interest)) p h l = refl
messages-pass (UndeclareToken id (Some wire) None) p h l =
    rw (text-back wire.suffix p.key.now (and_parts _ _ h).0 l.key, mapping-back wire.mapping) refl
messages-pass (UndeclareToken id (Some wire) (Some interest)) p h l =
    rw (text-back wire.suffix p.key.now (and_parts _ _ h).0 l.key, mapping-back wire.mapping) refl
messages-pass (DeclareFinal None) p h l = refl
messages-pass (DeclareFinal (Some interest)) p h l = refl
messages-pass (Interest id mode what None) p h l = rw (mode-back mode, what-back what) refl
messages-pass (Interest id mode what (Some wire)) p h l =
    rw (mode-back mode, what-back what, text-back wire.suffix p.key.now (and_parts _ _ h).0 l.key, mapping-back wire.mapping) refl
messages-pass (published push) p h l =
    let texts = and_parts _ _ h in
    rw (
      text-back push.wire.suffix p.key.now texts.0 l.key,
      text-back push.body.encoding p.encoding.now (and_parts _ _ texts.1).0 l.encoding,
      l.payload,
      l.attachment,
      mapping-back push.wire.mapping,
      kind-back push.body.kind,
      timestamp-back push.body.timestamp,
      source-back push.body.source,
      attachment-back push.body.attachment,
      congestion-back push.qos.congestion,
    ) refl
messages-pass (asked request) p h l =
    let texts = and_parts _ _ h in
    let more = and_parts _ _ texts.1 in
    let whole = told-back request request.value p more.1 l in
    rw (
      target-back request.target,
      consolidation-back request.consolidation,
      text-back request.wire.suffix p.key.now texts.0 whole.1.0,
      text-back request.parameters p.parameters.now more.0 whole.1.1.0,
      whole.0,
      whole.1.1.1,
      mapping-back request.wire.mapping,
      source-back request.source,
      attachment-back request.attachment,
      congestion-back request.qos.congestion,
    ) refl
messages-pass (answered response) p h l =
    response-back response.rid response.wire response.answered response.qos response.responder p h l
messages-pass (ResponseFinal id) p h l = refl
messages-pass Close p h l = refl
