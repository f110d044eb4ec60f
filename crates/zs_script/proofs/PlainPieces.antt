-- The fields of printed pieces are plain, where their texts are.
use Rattle.std.proofs.Common.{ℕ, ◌≡◌, Bool, true, false, List, [], ◌∷◌, ◌++◌, Option, Some, None, refl, ◌∙◌, cond, codes, decimal, encode_utf8_all}
use Rattle.std.specs.List.{list_all}
use Rattle.std.proofs.lemmas.Bool.{and_parts, and_from}
use Rattle.std.proofs.lemmas.List.Folds.{list_all-append}
use Rattle.zs_wire.specs.declared.body.Body.{Body}
use Rattle.zs_wire.specs.declared.body.Value.{Value}
use Rattle.zs_wire.specs.declared.interest.InterestMode.{InterestMode}
use Rattle.zs_wire.specs.declared.interest.InterestMode.TheVariants.{Current, Future, CurrentFuture, Final}
use Rattle.zs_wire.specs.declared.interest.InterestWhat.{InterestWhat}
use Rattle.zs_wire.specs.declared.interest.InterestWhat.TheVariants.{Subscribers, Queryables, Tokens, Nothing}
use Rattle.zs_wire.specs.declared.message.Message.{Message}
use Rattle.zs_wire.specs.declared.message.Message.TheVariants.{DeclareKeyExpr, UndeclareKeyExpr, DeclareSubscriber, UndeclareSubscriber, DeclareQueryable, UndeclareQueryable, DeclareToken, UndeclareToken, DeclareFinal, Interest, Push as push_message, Request as request_message, Response as response_message, ResponseFinal, Close}
use Rattle.zs_wire.specs.declared.origin.EntityGlobalId.{EntityGlobalId}
use Rattle.zs_wire.specs.declared.origin.SourceInfo.{SourceInfo}
use Rattle.zs_wire.specs.declared.origin.Timestamp.{Timestamp}
use Rattle.zs_wire.specs.declared.quality.CongestionControl.{CongestionControl}
use Rattle.zs_wire.specs.declared.quality.CongestionControl.TheVariants.{Drop, Block}
use Rattle.zs_wire.specs.declared.quality.QoSType.{QoSType}
use Rattle.zs_wire.specs.declared.request.ConsolidationMode.{ConsolidationMode}
use Rattle.zs_wire.specs.declared.request.ConsolidationMode.TheVariants.{Auto, None as keep_all, Monotonic, Latest}
use Rattle.zs_wire.specs.declared.request.QueryTarget.{QueryTarget}
use Rattle.zs_wire.specs.declared.request.QueryTarget.TheVariants.{BestMatching, All, AllComplete}
use Rattle.zs_wire.specs.declared.response.Answered.{Answered}
use Rattle.zs_wire.specs.declared.response.Answered.TheVariants.{Reply, Err as error_reply}
use Rattle.zs_wire.specs.declared.sample_kind.SampleKind.{SampleKind}
use Rattle.zs_wire.specs.declared.sample_kind.SampleKind.TheVariants.{Put, Delete}
use Rattle.zs_wire.specs.declared.wire_expr.Mapping.{Mapping}
use Rattle.zs_wire.specs.declared.wire_expr.Mapping.TheVariants.{Sender, Receiver}
use Rattle.zs_wire.specs.declared.wire_expr.WireExpr.{WireExpr}
use Rattle.zs_sample.specs.declared.sample_fields.SampleFields.{SampleFields}
use Rattle.zs_query.specs.QueryData.{Query}
use Rattle.zs_printing.specs.Words.{sample_word, congestion_word, flag_digit, complete_word, target_word, consolidation_word, mode_word, what_word, hex_text, bytes_text, mapping_letter, wire_text, timestamp_text, entity_text, source_text}
use Rattle.zs_printing.specs.Pieces.{Piece, word, number, wire, wire_if, payload, parameters, target, consolidation, timeout, value, payload_if, encoding, encoding_if, timestamp, qos, reliable, source, attachment, responder, interest, named, field_if, encoding_field, payload_field, written, pieces_fields}
use Rattle.zs_events.specs.Kinds.{value_texts}
use Rattle.zs_parts.specs.Symbols.{names_nothing, naming}
use Rattle.zs_printing.specs.Printing.{verb_pieces, sample_pieces, message_pieces, answered_pieces, asked_pieces}
use Rattle.zs_script.specs.Plain.{is_plain, is_plain_text, text_if, is_plain_query, suffix_if, answered_texts, message_texts}
use Rattle.zs_script.proofs.PlainTexts.{plain_byte, plain-append, decimal-plain, hex-plain, bytes-plain}

-- words
pub congestion-plain : (congestion : CongestionControl) → is_plain (congestion_word congestion) ≡ true
congestion-plain Drop = refl
congestion-plain Block = refl

pub flag-plain : (flag : Bool) → is_plain (flag_digit flag) ≡ true
flag-plain true = refl
flag-plain false = refl

pub target-plain : (t : QueryTarget) → is_plain (target_word t) ≡ true
target-plain BestMatching = refl
target-plain All = refl
target-plain AllComplete = refl

pub consolidation-plain : (mode : ConsolidationMode) → is_plain (consolidation_word mode) ≡ true
consolidation-plain Auto = refl
consolidation-plain keep_all = refl
consolidation-plain Monotonic = refl
consolidation-plain Latest = refl

pub complete-plain : (complete : Bool) → is_plain (complete_word complete) ≡ true
complete-plain true = refl
complete-plain false = refl

mode-plain : (mode : InterestMode) → is_plain (mode_word mode) ≡ true
mode-plain Current = refl
mode-plain Future = refl
mode-plain CurrentFuture = refl
mode-plain Final = refl

what-plain : (what : InterestWhat) → is_plain (what_word what) ≡ true
what-plain Subscribers = refl
what-plain Queryables = refl
what-plain Tokens = refl
what-plain Nothing = refl

pub verb-plain : (kind : SampleKind) → is_plain (sample_word kind) ≡ true
verb-plain Put = refl
verb-plain Delete = refl

-- symbols
letter-plain : (mapping : Mapping) → plain_byte (mapping_letter mapping) ≡ true
letter-plain Sender = refl
letter-plain Receiver = refl

pub wire-plain : (w : WireExpr) → is_plain_text w.suffix ≡ true → is_plain (wire_text w) ≡ true
wire-plain w h =
    and_from _ _ (letter-plain w.mapping)
    (plain-append (decimal w.scope) (58 ∷ encode_utf8_all w.suffix) (decimal-plain w.scope) h)

pub timestamp-plain : (t : Timestamp) → is_plain (timestamp_text t) ≡ true
timestamp-plain t = plain-append (decimal t.time) (58 ∷ hex_text t.id) (decimal-plain t.time) (hex-plain t.id)

pub entity-plain : (e : EntityGlobalId) → is_plain (entity_text e) ≡ true
entity-plain e = plain-append (hex_text e.zid) (58 ∷ decimal e.eid) (hex-plain e.zid) (decimal-plain e.eid)

pub source-plain : (s : SourceInfo) → is_plain (source_text s) ≡ true
source-plain s = plain-append (entity_text s.source_id) (58 ∷ decimal s.source_sn) (entity-plain s.source_id) (decimal-plain s.source_sn)

-- what makes the fields of a piece plain: its text, where it has one
abbrev PlainChars : List ℕ → Type 0
PlainChars text = is_plain_text text ≡ true

abbrev AllPlain : List (List ℕ) → Type 0
AllPlain texts = list_all is_plain_text texts ≡ true

abbrev pub IsPlainPiece : Piece → Type 0
IsPlainPiece (word text) = is_plain text ≡ true
IsPlainPiece (wire w) = PlainChars w.suffix
IsPlainPiece (wire_if w) = AllPlain (suffix_if w)
IsPlainPiece (parameters text) = is_plain text ≡ true
IsPlainPiece (value v) = AllPlain (value_texts v)
IsPlainPiece (encoding text) = PlainChars text
IsPlainPiece (encoding_if text) = AllPlain (text_if text)
IsPlainPiece piece = Unit {0}

pub one : (text : List ℕ) → is_plain text ≡ true → list_all is_plain (text ∷ []) ≡ true
one text h = and_from _ _ h refl

pub one-if : {A : Type 0} (text : A → List ℕ) → ((a : A) → is_plain (text a) ≡ true) → (found : Option A)
    → list_all is_plain (field_if text found) ≡ true
one-if text each None = refl
one-if text each (Some a) = one (text a) (each a)

wire-if-plain : (w : Option WireExpr) → AllPlain (suffix_if w) → list_all is_plain (field_if wire_text w) ≡ true
wire-if-plain None h = refl
wire-if-plain (Some w) h = one (wire_text w) (wire-plain w (and_parts (is_plain_text w.suffix) true h).0)

pub parameters-plain : (text : List ℕ) → is_plain text ≡ true → list_all is_plain (written (parameters text)) ≡ true
unfolding written
parameters-plain [] h = refl
parameters-plain (b ∷ bs) h = one (b ∷ bs) h

encoding-if-plain : (text : Option (List ℕ)) → AllPlain (text_if text) → list_all is_plain (field_if encoding_field text) ≡ true
encoding-if-plain None h = refl
encoding-if-plain (Some text) h = one (encode_utf8_all text) (and_parts (is_plain_text text) true h).0

value-plain : (v : Option Value) → AllPlain (value_texts v) → list_all is_plain (written (value v)) ≡ true
unfolding written
value-plain None h = refl
value-plain (Some v) h = and_from _ _ (bytes-plain v.payload) (one (encode_utf8_all v.encoding) (and_parts (is_plain_text v.encoding) true h).0)

qos-plain : (q : QoSType) → list_all is_plain (written (qos q)) ≡ true
unfolding written
qos-plain q =
    and_from _ _ (decimal-plain q.priority) (and_from _ _ (congestion-plain q.congestion) (one (flag_digit q.express) (flag-plain q.express)))

written-plain : (piece : Piece) → IsPlainPiece piece → list_all is_plain (written piece) ≡ true
unfolding written
written-plain (word text) h = one text h
written-plain (number n) h = one (decimal n) (decimal-plain n)
written-plain (wire w) h = one (wire_text w) (wire-plain w h)
written-plain (wire_if w) h = wire-if-plain w h
written-plain (payload bytes) h = one (bytes_text bytes) (bytes-plain bytes)
written-plain (parameters text) h = parameters-plain text h
written-plain (target t) h = one (target_word t) (target-plain t)
written-plain (consolidation mode) h = one (consolidation_word mode) (consolidation-plain mode)
written-plain (timeout n) h = one (decimal n) (decimal-plain n)
written-plain (value v) h = value-plain v h
written-plain (payload_if bytes) h = one-if payload_field bytes-plain bytes
written-plain (encoding text) h = one (encode_utf8_all text) h
written-plain (encoding_if text) h = encoding-if-plain text h
written-plain (timestamp time) h = one-if (λ t. named (codes "ts=") (timestamp_text t)) timestamp-plain time
written-plain (qos q) h = qos-plain q
written-plain (reliable flag) h = one (flag_digit flag) (flag-plain flag)
written-plain (source origin) h = one-if (λ s. named (codes "src=") (source_text s)) source-plain origin
written-plain (attachment bytes) h = one-if (λ b. named (codes "att=") (bytes_text b)) bytes-plain bytes
written-plain (responder id) h = one-if (λ e. named (codes "by=") (entity_text e)) entity-plain id
written-plain (interest id) h = one-if (λ n. named (codes "interest=") (decimal n)) decimal-plain id

-- a list of pieces
abbrev pub ArePlain : List Piece → Type 0
ArePlain [] = Unit {0}
ArePlain (piece ∷ pieces) = IsPlainPiece piece × ArePlain pieces

pub pieces-plain : (pieces : List Piece) → ArePlain pieces → list_all is_plain (pieces_fields pieces) ≡ true
pieces-plain [] h = refl
pieces-plain (piece ∷ pieces) h =
    list_all-append is_plain (written piece) (pieces_fields pieces) ∙ and_from _ _ (written-plain piece h.0) (pieces-plain pieces h.1)

pub both-plain : (first more : List Piece) → ArePlain first → ArePlain more → ArePlain (first ++ more)
both-plain [] more h k = k
both-plain (piece ∷ first) more h k = (h.0, both-plain first more h.1 k)

-- samples
pub sample-plain : (s : SampleFields) → is_plain s.key_expr.text ≡ true → is_plain_text s.encoding ≡ true → ArePlain (sample_pieces s)
sample-plain s key text = (verb-plain s.kind, (key, (tt, (text, (tt, (tt, (tt, (tt, (tt, tt)))))))))

-- queries that are handed out
pub asked-plain : (q : Query) → is_plain_query q ≡ true → ArePlain (asked_pieces q)
asked-plain q h =
    let texts = and_parts (is_plain q.key_expr.text) _ h in
    let more = and_parts (is_plain q.parameters) _ texts.1 in
    (texts.0, (more.0, (tt, (more.1, (tt, (tt, (tt, tt)))))))

-- messages
verb-pieces-plain : (kind : SampleKind) (body : Body) → PlainChars body.encoding → ArePlain (verb_pieces kind body)
verb-pieces-plain Put body h = (refl, (tt, (h, tt)))
verb-pieces-plain Delete body h = (refl, tt)

answered-plain : (answered : Answered) (quality : QoSType) → AllPlain (answered_texts answered) → ArePlain (answered_pieces answered quality)
answered-plain (Reply body) quality h =
    both-plain (verb_pieces body.kind body) _
    (verb-pieces-plain body.kind body (and_parts (is_plain_text body.encoding) true h).0) (tt, (tt, (tt, (tt, tt))))
answered-plain (error_reply v) quality h = (refl, (tt, ((and_parts (is_plain_text v.encoding) true h).0, (tt, tt))))

naming-plain : (w : Option WireExpr) → AllPlain (suffix_if w) → AllPlain (suffix_if (naming w))
naming-plain None h = refl
naming-plain (Some w) h = go (names_nothing w)
  where
    go : (b : Bool) → AllPlain (suffix_if (cond b None (Some w)))
    go true = refl
    go false = h

pub message-plain : (message : Message) → AllPlain (message_texts message) → ArePlain (message_pieces message)
message-plain (DeclareKeyExpr id w) h = (refl, (tt, ((and_parts _ true h).0, tt)))
message-plain (UndeclareKeyExpr id) h = (refl, (tt, tt))
message-plain (DeclareSubscriber id w) h = (refl, (tt, ((and_parts _ true h).0, tt)))
message-plain (UndeclareSubscriber id) h = (refl, (tt, tt))
message-plain (DeclareQueryable id complete w) h = (refl, (tt, (complete-plain complete, ((and_parts _ true h).0, tt))))
message-plain (UndeclareQueryable id) h = (refl, (tt, tt))
message-plain (DeclareToken id w asked) h = (refl, (tt, ((and_parts _ true h).0, (tt, tt))))
message-plain (UndeclareToken id w asked) h = (refl, (tt, (naming-plain w h, (tt, tt))))
message-plain (DeclareFinal asked) h = (refl, (tt, tt))
message-plain (Interest id mode what w) h = (refl, (tt, (mode-plain mode, (what-plain what, (h, tt)))))
message-plain (push_message push) h =
    let texts = and_parts (is_plain_text push.wire.suffix) (list_all is_plain_text (push.body.encoding ∷ [])) h in
    let text = (and_parts (is_plain_text push.body.encoding) true texts.1).0 in (
      refl,
      (
        texts.0,
        both-plain (verb_pieces push.body.kind push.body) _
            (verb-pieces-plain push.body.kind push.body text) (tt, (tt, (tt, (tt, (tt, tt))))),
      ),
    )
message-plain (request_message request) h =
    let texts = and_parts (is_plain_text request.wire.suffix) _ h in
    let more = and_parts (is_plain_text request.parameters) _ texts.1 in
    (refl, (tt, (texts.0, (more.0, (tt, (tt, (tt, (more.1, (tt, (tt, (tt, tt)))))))))))
message-plain (response_message response) h =
    let texts = and_parts (is_plain_text response.wire.suffix) _ h in (
      refl,
      (
        tt,
        (
          texts.0,
          both-plain (answered_pieces response.answered response.qos) _
              (answered-plain response.answered response.qos texts.1) (tt, tt),
        ),
      ),
    )
message-plain (ResponseFinal id) h = (refl, (tt, tt))
message-plain Close h = (refl, tt)
