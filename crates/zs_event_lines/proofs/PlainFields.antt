-- The fields of what can be said have no tab and no line feed.
use Rattle.std.proofs.Common.{ℕ, ◌≡◌, ◌==◌, Bool, true, false, not, List, [], ◌∷◌, ◌++◌, Option, Some, None, option_and_then, refl, ◌∙◌, cond, codes, decimal, encode_utf8_all}
use Rattle.std.specs.List.{list_all}
use Rattle.std.proofs.lemmas.Bool.{and_parts, and_from}
use Rattle.std.proofs.lemmas.List.Folds.{list_all-append}
use Rattle.zs_sample.specs.declared.locality.Locality.{Locality}
use Rattle.zs_sample.specs.declared.locality.Locality.TheVariants.{SessionLocal, Remote, Any}
use Rattle.zs_wire.specs.declared.body.Value.{Value as QueryValue}
use Rattle.zs_wire.specs.declared.quality.CongestionControl.{CongestionControl}
use Rattle.zs_wire.specs.declared.quality.CongestionControl.TheVariants.{Drop}
use Rattle.zs_wire.specs.declared.quality.QoSType.{QoSType}
use Rattle.zs_wire.specs.declared.sample_kind.SampleKind.{SampleKind}
use Rattle.zs_wire.specs.declared.sample_kind.SampleKind.TheVariants.{Put as put_kind, Delete as delete_kind}
use Rattle.zs_wire.specs.declared.wire_expr.WireExpr.{WireExpr}
use Rattle.zs_events.specs.declared.chan.Chan.{Chan}
use Rattle.zs_events.specs.declared.chan.Chan.TheVariants.{Print, Fifo, Ring}
use Rattle.zs_events.specs.declared.entity_kind.BackgroundKind.{BackgroundKind}
use Rattle.zs_events.specs.declared.entity_kind.BackgroundKind.TheVariants.{Sub as background_sub, Queryable as background_queryable, Listener as background_listener, Lsub as background_lsub}
use Rattle.zs_events.specs.declared.entity_kind.ParentKind.{ParentKind}
use Rattle.zs_events.specs.declared.entity_kind.ParentKind.TheVariants.{Pub as pub_parent, Querier as querier_parent}
use Rattle.zs_events.specs.declared.key_arg.KeyArg.{KeyArg}
use Rattle.zs_events.specs.declared.key_arg.KeyArg.TheVariants.{Text, Number, Declared}
use Rattle.zs_events.specs.declared.publication.ReplyQuality.{ReplyQuality}
use Rattle.zs_events.specs.declared.update.PushBody.{PushBody}
use Rattle.zs_events.specs.declared.update.PushBody.TheVariants.{Put, Delete}
use Rattle.zs_events.specs.Kinds.{is_nothing}
use Rattle.zs_parts.specs.Symbols.{names_nothing}
use Rattle.zs_parts.specs.Options.{is_default, named_encoding}
use Rattle.zs_printing.specs.Words.{flag_digit, complete_word, target_word, consolidation_word, bytes_text, wire_text, timestamp_text, entity_text, source_text}
use Rattle.zs_printing.specs.Pieces.{field_if, encoding_field, written}
use Rattle.zs_script.specs.Plain.{is_plain, is_plain_text}
use Rattle.zs_parts.specs.Parts.{Part, number, locality, background_kind, parent, complete, history, key, selector, wire, wire_if, payload, push_body, own_body, parameters, target, consolidation, timeout, value, encoding, timestamp, qos, reliable, quality, reply_quality, source, attachment, responder, any_key, cancellation_token, interest, channel, handed_to, channel_kind, Value, unnamed}
use Rattle.zs_script.proofs.PlainTexts.{plain-append, decimal-plain, bytes-plain}
use Rattle.zs_script.proofs.PlainPieces.{congestion-plain, flag-plain, target-plain, consolidation-plain, complete-plain, wire-plain, timestamp-plain, entity-plain, source-plain, one, one-if, parameters-plain}
use Rattle.zs_event_lines.specs.Shown.{unless, locality_word, background_word, parent_word, history_word, suffix_text, key_text, question_text, selector_text, is_best, is_auto, is_congestion, encoding_fields, priority_field, congestion_field, express_field, reliable_fields, qos_fields, reply_quality_fields, body_fields, query_value_fields, channel_text, is_print, shown}
use Rattle.zs_event_lines.specs.Sayable.{if_there, says_key, says_encoding, says_wire, says_body, says, has_no_question}
use Rattle.zs_event_lines.proofs.EncodingsBack.{other-there}

locality-plain : (l : Locality) → is_plain (locality_word l) ≡ true
locality-plain Any = refl
locality-plain SessionLocal = refl
locality-plain Remote = refl

background-plain : (kind : BackgroundKind) → is_plain (background_word kind) ≡ true
background-plain background_sub = refl
background-plain background_queryable = refl
background-plain background_listener = refl
background-plain background_lsub = refl

parent-plain : (kind : ParentKind) → is_plain (parent_word kind) ≡ true
parent-plain pub_parent = refl
parent-plain querier_parent = refl

history-plain : (flag : Bool) → is_plain (history_word flag) ≡ true
history-plain true = refl
history-plain false = refl

channel-text-plain : (c : Chan) → is_plain (channel_text c) ≡ true
channel-text-plain Print = refl
channel-text-plain (Fifo n) = decimal-plain n
channel-text-plain (Ring n) = decimal-plain n

-- keys
suffix-plain : (bytes : List ℕ) → is_plain bytes ≡ true → is_plain (suffix_text bytes) ≡ true
suffix-plain [] h = refl
suffix-plain (b ∷ bs) h = h

key-plain : (k : KeyArg) → says_key k ≡ true → is_plain (key_text k) ≡ true
key-plain (Text text) h = (and_parts (is_plain_text text) _ h).0
key-plain (Number n text) h =
    plain-append (decimal n) (suffix_text (encode_utf8_all text)) (decimal-plain n) (suffix-plain (encode_utf8_all text) h)
key-plain (Declared text n size) h = cc

question-plain : (bytes : List ℕ) → is_plain bytes ≡ true → is_plain (question_text bytes) ≡ true
question-plain [] h = refl
question-plain (b ∷ bs) h = h

-- fields that may be left out
unless-plain : (same : Bool) (text : List ℕ) → is_plain text ≡ true → list_all is_plain (unless same text) ≡ true
unless-plain true text h = refl
unless-plain false text h = one text h

both-fields : (fields more : List (List ℕ)) → list_all is_plain fields ≡ true → list_all is_plain more ≡ true
    → list_all is_plain (fields ++ more) ≡ true
both-fields fields more h k = list_all-append is_plain fields more ∙ and_from _ _ h k

wire-if-plain : (w : Option WireExpr) → if_there says_wire w ≡ true → list_all is_plain (field_if wire_text w) ≡ true
wire-if-plain None h = refl
wire-if-plain (Some w) h = one (wire_text w) (wire-plain w (and_parts (not (names_nothing w)) _ h).1)

named-plain : (text : Option (List ℕ)) → if_there says_encoding text ≡ true → list_all is_plain (field_if encoding_field text) ≡ true
named-plain None h = refl
named-plain (Some text) h = one (encode_utf8_all text) (and_parts (not (is_nothing text)) _ h).1

encoding-plain : (text : List ℕ) → says_encoding text ≡ true → list_all is_plain (encoding_fields text) ≡ true
encoding-plain text h = go (is_default text)
  where
    go : (b : Bool) → list_all is_plain (field_if encoding_field (cond b None (Some text))) ≡ true
    go true = refl
    go false = one (encode_utf8_all text) (and_parts (not (is_nothing text)) _ h).1

body-plain : (kind : SampleKind) (body : PushBody) → says_body kind body ≡ true → list_all is_plain (body_fields body) ≡ true
body-plain put_kind (Put bytes text) h = and_from _ _ (bytes-plain bytes) (named-plain text h)
body-plain put_kind Delete h = refl
body-plain delete_kind (Put bytes text) h = cc
body-plain delete_kind Delete h = refl

own-plain : (kind : SampleKind) (body : PushBody) → says_body kind body ≡ true → list_all is_plain (body_fields (unnamed body)) ≡ true
own-plain put_kind (Put bytes text) h =
    and_from _ _ (bytes-plain bytes) (named-plain (option_and_then named_encoding text) (other-there says_encoding text h))
own-plain put_kind Delete h = refl
own-plain delete_kind (Put bytes text) h = cc
own-plain delete_kind Delete h = refl

value-plain : (v : Option QueryValue) → if_there (λ w. says_encoding w.encoding) v ≡ true → list_all is_plain (query_value_fields v) ≡ true
value-plain None h = refl
value-plain (Some v) h = and_from _ _ (bytes-plain v.payload) (encoding-plain v.encoding h)

qos-plain : (absent : CongestionControl) (q : QoSType) → list_all is_plain (qos_fields absent q) ≡ true
qos-plain absent q =
    both-fields (unless (q.priority == 5) (priority_field q.priority)) _
    (unless-plain (q.priority == 5) (priority_field q.priority) (decimal-plain q.priority))
    (both-fields (unless (is_congestion absent q.congestion) (congestion_field q.congestion)) _
    (unless-plain (is_congestion absent q.congestion) (congestion_field q.congestion) (congestion-plain q.congestion))
    (unless-plain (not q.express) (express_field q.express) (flag-plain q.express)))

reliable-plain : (flag : Bool) → list_all is_plain (reliable_fields flag) ≡ true
reliable-plain flag = unless-plain flag (codes "rel=" ++ flag_digit flag) (flag-plain flag)

reply-quality-plain : (q : ReplyQuality) → list_all is_plain (reply_quality_fields q) ≡ true
reply-quality-plain q =
    both-fields (field_if priority_field q.priority) _ (one-if priority_field decimal-plain q.priority)
    (both-fields (field_if congestion_field q.congestion) _ (one-if congestion_field congestion-plain q.congestion)
    (one-if express_field flag-plain q.express))

-- every part
pub plain : (part : Part) (v : Value part) → says part v ≡ true → list_all is_plain (shown part v) ≡ true
unfolding shown says written
plain (number most) n h = one (decimal n) (decimal-plain n)
plain locality l h = one (locality_word l) (locality-plain l)
plain background_kind kind h = one (background_word kind) (background-plain kind)
plain parent kind h = one (parent_word kind) (parent-plain kind)
plain complete flag h = one (complete_word flag) (complete-plain flag)
plain history flag h = one (history_word flag) (history-plain flag)
plain key k h = one (key_text k) (key-plain k h)
plain selector k h =
    let first = and_parts (says_key k.0) _ h in
    let second = and_parts (has_no_question k.0) _ first.1 in
    one (selector_text k.0 k.1)
    (plain-append (key_text k.0) (question_text (encode_utf8_all k.1)) (key-plain k.0 first.0) (question-plain (encode_utf8_all k.1) second.1))
plain wire w h = one (wire_text w) (wire-plain w h)
plain wire_if w h = wire-if-plain w h
plain payload bytes h = one (bytes_text bytes) (bytes-plain bytes)
plain (push_body kind) body h = body-plain kind body h
plain (own_body kind) body h = own-plain kind body h
plain parameters text h = parameters-plain (encode_utf8_all text) h
plain target v h = unless-plain (is_best v) (codes "target=" ++ target_word v) (target-plain v)
plain consolidation v h = unless-plain (is_auto v) (codes "cons=" ++ consolidation_word v) (consolidation-plain v)
plain timeout v h = one-if (λ n. codes "timeout=" ++ decimal n) decimal-plain v
plain value v h = value-plain v h
plain encoding text h = encoding-plain text h
plain timestamp v h = one-if (λ t. codes "ts=" ++ timestamp_text t) timestamp-plain v
plain (qos least absent) q h = qos-plain absent q
plain reliable flag h = reliable-plain flag
plain quality q h = both-fields (qos_fields Drop q.qos) _ (qos-plain Drop q.qos) (reliable-plain q.reliable)
plain reply_quality q h = reply-quality-plain q
plain source v h = one-if (λ s. codes "src=" ++ source_text s) source-plain v
plain attachment v h = one-if (λ b. codes "att=" ++ bytes_text b) bytes-plain v
plain responder v h = one-if (λ e. codes "by=" ++ entity_text e) entity-plain v
plain any_key flag h = unless-plain (not flag) (codes "accept=any") refl
plain cancellation_token v h = one-if (λ n. codes "token=" ++ decimal n) decimal-plain v
plain interest v h = one-if (λ n. codes "interest=" ++ decimal n) decimal-plain v
plain channel c h = unless-plain (is_print c) (channel_text c) (channel-text-plain c)
plain handed_to c h = unless-plain (is_print c) (codes "to=" ++ channel_text c) (channel-text-plain c)
plain channel_kind kind h = refl
