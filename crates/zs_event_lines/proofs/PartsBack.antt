-- Each part is read as what was printed of it.
use Rattle.std.proofs.Common.{ℕ, ◌≡◌, ◌==◌, Bool, true, false, not, ◌&&◌, List, [], ◌∷◌, ◌++◌, Option, Some, None, option_map, option_and_then, refl, sym, ap, ◌∙◌, cond, codes, decimal, encode_utf8_all, append_assoc}
use Rattle.std.specs.Prelude.{nat_le}
use Rattle.std.specs.Str.{all_scalars, chars}
use Rattle.std.proofs.lemmas.Bool.{and_parts, not-true, eqb-true}
use Rattle.std.proofs.lemmas.Str.{chars-encodes, chars-nil}
use Rattle.std.proofs.lemmas.Option.{same_Some}
use Rattle.zs_wire.specs.declared.body.Value.{Value as QueryValue}
use Rattle.zs_wire.specs.declared.quality.CongestionControl.{CongestionControl}
use Rattle.zs_wire.specs.declared.quality.CongestionControl.TheVariants.{Drop, Block}
use Rattle.zs_wire.specs.declared.quality.QoSType.{QoSType}
use Rattle.zs_wire.specs.declared.request.ConsolidationMode.{ConsolidationMode}
use Rattle.zs_wire.specs.declared.request.ConsolidationMode.TheVariants.{Auto, None as keep_all, Monotonic, Latest}
use Rattle.zs_wire.specs.declared.request.QueryTarget.{QueryTarget}
use Rattle.zs_wire.specs.declared.request.QueryTarget.TheVariants.{BestMatching, All, AllComplete}
use Rattle.zs_wire.specs.declared.sample_kind.SampleKind.{SampleKind}
use Rattle.zs_wire.specs.declared.sample_kind.SampleKind.TheVariants.{Put as put_kind, Delete as delete_kind}
use Rattle.zs_wire.specs.declared.wire_expr.WireExpr.{WireExpr}
use Rattle.zs_events.specs.declared.chan.Chan.{Chan}
use Rattle.zs_events.specs.declared.chan.Chan.TheVariants.{Print, Fifo, Ring}
use Rattle.zs_events.specs.declared.publication.PublicationQuality.{PublicationQuality}
use Rattle.zs_events.specs.declared.publication.ReplyQuality.{ReplyQuality}
use Rattle.zs_events.specs.declared.update.PushBody.{PushBody}
use Rattle.zs_events.specs.declared.update.PushBody.TheVariants.{Put, Delete}
use Rattle.zs_events.specs.Updates.{default_encoding}
use Rattle.zs_parts.specs.Symbols.{number_of, u32_max, u64_max, locality_of, background_kind_of, parent_of, complete_of, history_of, key_of, payload_of, wire_of, names_nothing}
use Rattle.zs_parts.specs.Options.{timestamp_of, entity_of, source_of, encoding_text_of, is_default, named_encoding, priority_of, congestion_of, flag_of, target_of, consolidation_of, any_key_of, value_of}
use Rattle.zs_parts.specs.Channels.{channel_of}
use Rattle.zs_printing.specs.Words.{congestion_word, flag_digit, complete_word, target_word, consolidation_word, bytes_text, wire_text, timestamp_text, entity_text, source_text}
use Rattle.zs_printing.specs.Pieces.{field_if, parameter_fields, written}
use Rattle.zs_parts.specs.Parts.{Part, number, locality, background_kind, parent, complete, history, key, selector, wire, wire_if, payload, push_body, own_body, parameters, target, consolidation, timeout, value, encoding, timestamp, qos, reliable, quality, reply_quality, source, attachment, responder, any_key, cancellation_token, interest, channel, handed_to, channel_kind, Value, first_of, first_in, named_in, taken, option_in, maybe_in, named_wire_in, qos_in, quality_in, reply_quality_in, encoded, body_in, unnamed, unnamed_in, own_body_in, value_in, selector_of, read}
use Rattle.zs_event_lines.specs.Shown.{unless, locality_word, background_word, parent_word, history_word, key_text, selector_text, is_best, is_auto, is_congestion, encoding_fields, priority_field, congestion_field, express_field, reliable_fields, qos_fields, quality_fields, reply_quality_fields, channel_text, is_print, shown}
use Rattle.zs_event_lines.specs.Sayable.{if_there, says_encoding, says_wire, says_priority, says_channel, says, is_wire, is_timestamp, is_entity, is_source, are_bytes, is_typed, gathered, gathered_push, gathered_value, kept}
use Rattle.zs_event_lines.proofs.Digits.{number-says, payload-says}
use Rattle.zs_event_lines.proofs.Symbols.{locality-says, background-says, parent-says, complete-says, history-says, congestion-says, flag-says, target-says, consolidation-says, priority-says, channel-says, timestamp-says, entity-says, source-says, wire-says, key-says, selector-says}
use Rattle.zs_event_lines.proofs.Options.{AllDeclined, Over, over-field, over-unless, over-if, over-any, over-append, option-back, maybe-back, maybe-same, there}
use Rattle.zs_event_lines.proofs.EncodingsBack.{default-same, encoding-says, encoding-back, named-encoding-back, other-twice, other-there}

-- the names whose absence a part looks for
abbrev pub asks : Part → List (List ℕ)
asks wire_if = codes "s" ∷ codes "r" ∷ []
asks (push_body kind) = codes "enc=" ∷ []
asks (own_body kind) = codes "enc=" ∷ []
asks parameters = codes "params=" ∷ []
asks target = codes "target=" ∷ []
asks consolidation = codes "cons=" ∷ []
asks timeout = codes "timeout=" ∷ []
asks value = codes "payload=" ∷ codes "enc=" ∷ []
asks encoding = codes "enc=" ∷ []
asks timestamp = codes "ts=" ∷ []
asks (qos least absent) = codes "prio=" ∷ codes "cc=" ∷ codes "express=" ∷ []
asks reliable = codes "rel=" ∷ []
asks quality = codes "prio=" ∷ codes "cc=" ∷ codes "express=" ∷ codes "rel=" ∷ []
asks reply_quality = codes "prio=" ∷ codes "cc=" ∷ codes "express=" ∷ []
asks source = codes "src=" ∷ []
asks attachment = codes "att=" ∷ []
asks responder = codes "by=" ∷ []
asks any_key = codes "accept=" ∷ []
asks cancellation_token = codes "token=" ∷ []
asks interest = codes "interest=" ∷ []
asks channel = [] ∷ []
asks handed_to = codes "to=" ∷ []
asks part = []

-- what the fields of a part begin with
abbrev pub heads : Part → List (List ℕ)
heads parameters = codes "params=" ∷ []
heads target = codes "target=" ∷ []
heads consolidation = codes "cons=" ∷ []
heads timeout = codes "timeout=" ∷ []
heads value = codes "payload=" ∷ []
heads encoding = codes "enc=" ∷ []
heads timestamp = codes "ts=" ∷ []
heads (qos least absent) = codes "prio=" ∷ codes "cc=" ∷ codes "express=" ∷ []
heads reliable = codes "rel=" ∷ []
heads quality = codes "prio=" ∷ codes "cc=" ∷ codes "express=" ∷ codes "rel=" ∷ []
heads reply_quality = codes "prio=" ∷ codes "cc=" ∷ codes "express=" ∷ []
heads source = codes "src=" ∷ []
heads attachment = codes "att=" ∷ []
heads responder = codes "by=" ∷ []
heads any_key = codes "accept=" ∷ []
heads cancellation_token = codes "token=" ∷ []
heads interest = codes "interest=" ∷ []
heads handed_to = codes "to=" ∷ []
heads part = [] ∷ []

-- a part whose numbers have at most 64 bits
abbrev pub is_sound : Part → Bool
is_sound (number most) = nat_le most u64_max
is_sound part = true

-- values that stand for absent options
best-same : (t : QueryTarget) → is_best t ≡ true → t ≡ BestMatching
best-same BestMatching h = refl
best-same All h = cc
best-same AllComplete h = cc

auto-same : (mode : ConsolidationMode) → is_auto mode ≡ true → mode ≡ Auto
auto-same Auto h = refl
auto-same keep_all h = cc
auto-same Monotonic h = cc
auto-same Latest h = cc

congestion-same : (absent congestion : CongestionControl) → is_congestion absent congestion ≡ true → congestion ≡ absent
congestion-same Drop Drop h = refl
congestion-same Drop Block h = cc
congestion-same Block Drop h = cc
congestion-same Block Block h = refl

print-same : (c : Chan) → is_print c ≡ true → c ≡ Print
print-same Print h = refl
print-same (Fifo n) h = cc
print-same (Ring n) h = cc

flag-same : (flag : Bool) → flag ≡ true → flag ≡ true
flag-same flag h = h

express-same : (flag : Bool) → not flag ≡ true → flag ≡ false
express-same true h = cc
express-same false h = refl

-- fields that have to be there
first-back : {A : Type 0} (symbol : List ℕ → Option A) (field : List ℕ) (found : A) (rest : List (List ℕ)) → symbol field ≡ Some found
    → first_in symbol (field ∷ rest) ≡ Some (found, rest)
first-back symbol field found rest says = rw says refl

body-back : (kind : SampleKind) (body : PushBody) → says (push_body kind) body ≡ true → is_typed (push_body kind) body ≡ true
    → (rest : List (List ℕ)) → named_in (codes "enc=") rest ≡ None
    → body_in kind (shown (push_body kind) body ++ rest) ≡ Some (gathered_push body, rest)
unfolding says is_typed shown
body-back put_kind (Put bytes text) s t rest none =
    let both = and_parts (are_bytes bytes) _ t in
    rw (payload-says bytes both.0) (ap (λ found. Some (encoded (gathered bytes) found)) (named-encoding-back text rest s both.1 none))
body-back put_kind Delete s t rest none = cc
body-back delete_kind (Put bytes text) s t rest none = cc
body-back delete_kind Delete s t rest none = refl

own-body-back : (kind : SampleKind) (body : PushBody) → says (own_body kind) body ≡ true → is_typed (own_body kind) body ≡ true
    → (rest : List (List ℕ)) → named_in (codes "enc=") rest ≡ None
    → own_body_in kind (shown (own_body kind) body ++ rest) ≡ Some (unnamed (gathered_push body), rest)
unfolding says is_typed shown
own-body-back put_kind (Put bytes text) s t rest none =
    let both = and_parts (are_bytes bytes) _ t in
    rw (payload-says bytes both.0)
    (ap (λ found. Some (unnamed_in (encoded (gathered bytes) found)))
    (named-encoding-back (option_and_then named_encoding text) rest (other-there says_encoding text s) (other-there all_scalars text both.1) none)
    ∙ ap (λ (o : Option (List ℕ)). Some (Put (gathered bytes) o, rest)) (other-twice text))
own-body-back put_kind Delete s t rest none = cc
own-body-back delete_kind (Put bytes text) s t rest none = cc
own-body-back delete_kind Delete s t rest none = refl

-- wire expressions that may be left out
wire-declined : (rest : List (List ℕ)) → AllDeclined (codes "s" ∷ codes "r" ∷ []) rest → option_and_then wire_of (first_of rest) ≡ None
wire-declined [] d = refl
wire-declined (field ∷ rest) d = rw (d.0, d.1.0) refl

wire-if-back : (w : Option WireExpr) → if_there says_wire w ≡ true → if_there is_wire w ≡ true → (rest : List (List ℕ))
    → AllDeclined (codes "s" ∷ codes "r" ∷ []) rest → named_wire_in (field_if wire_text w ++ rest) ≡ (w, rest)
wire-if-back None s t rest d = rw (wire-declined rest d) refl
wire-if-back (Some w) s t rest d =
    rw (wire-says w t) (rw (not-true _ (and_parts (not (names_nothing w)) _ s).0) refl)

-- parameters
parameters-back : (bytes text : List ℕ) (rest : List (List ℕ)) → chars bytes ≡ text → named_in (codes "params=") rest ≡ None
    → option_in (codes "params=") (λ t. Some (chars t)) [] (parameter_fields bytes ++ rest) ≡ (text, rest)
parameters-back [] text rest h none = rw none (ap (λ (t : List ℕ). (t, rest)) (sym chars-nil ∙ h))
parameters-back (b ∷ bs) text rest h none = rw h refl

-- values
value-made : (bytes : List (List ℕ)) (text : List ℕ) (default : Bool) → (default ≡ true → text ≡ default_encoding)
    → value_of (Some bytes) (cond default None (Some text)) ≡ Some (record { payload = bytes; encoding = text })
value-made bytes text true h = ap (λ (t : List ℕ). Some (record { payload = bytes; encoding = t })) (sym (h refl))
value-made bytes text false h = refl

given-back : (text : List ℕ) (rest : List (List ℕ)) → says_encoding text ≡ true → all_scalars text ≡ true → named_in (codes "enc=") rest ≡ None
    → maybe_in (codes "enc=") encoding_text_of (encoding_fields text ++ rest) ≡ (named_encoding text, rest)
given-back text rest h k none =
    maybe-same (codes "enc=") encoding_text_of encode_utf8_all (named_encoding text) rest refl
    (λ t same. named-says (is_default text) t same) none
  where
    named-says : (b : Bool) (t : List ℕ) → cond b None (Some text) ≡ Some t → encoding_text_of (encode_utf8_all t) ≡ Some t
    named-says true t same = cc
    named-says false t same = rw (sym (same_Some text t same)) (encoding-says text h k)

value-back : (v : Option QueryValue) → if_there (λ w. says_encoding w.encoding) v ≡ true
    → if_there (λ w. are_bytes w.payload && all_scalars w.encoding) v ≡ true → (rest : List (List ℕ))
    → AllDeclined (codes "payload=" ∷ codes "enc=" ∷ []) rest
    → value_in (shown value v ++ rest) ≡ (option_map gathered_value v, rest)
unfolding shown
value-back None s t rest d = rw (d.0, d.1.0) refl
value-back (Some v) s t rest d =
    let both = and_parts (are_bytes v.payload) _ t in
    rw (payload-says v.payload both.0)
    (rw (given-back v.encoding rest s both.1 d.1.0)
    (ap (λ found. (found, rest)) (value-made (gathered v.payload) v.encoding (is_default v.encoding) (default-same v.encoding))))

-- quality of service
five-same : (n : ℕ) → (n == 5) ≡ true → n ≡ 5
five-same n h = eqb-true n 5 h

qos-back : (least : ℕ) (absent : CongestionControl) (q : QoSType) → says_priority least q.priority ≡ true → (rest : List (List ℕ))
    → AllDeclined (codes "prio=" ∷ codes "cc=" ∷ codes "express=" ∷ []) rest
    → qos_in least absent (qos_fields absent q ++ rest) ≡ (q, rest)
qos-back least absent q s rest d =
    let first = unless (q.priority == 5) (priority_field q.priority) in
    let second = unless (is_congestion absent q.congestion) (congestion_field q.congestion) in
    let third = unless (not q.express) (express_field q.express) in
    let over_third = over-unless (codes "express=") (flag_digit q.express) (not q.express) in
    let over_second = over-unless (codes "cc=") (congestion_word q.congestion) (is_congestion absent q.congestion) in
    let one : option_in (codes "prio=") (priority_of least) 5 (first ++ (second ++ (third ++ rest))) ≡ (q.priority, second ++ (third ++ rest)) =
    option-back (codes "prio=") (priority_of least) 5 q.priority (q.priority == 5) (decimal q.priority) (second ++ (third ++ rest)) refl
    (five-same q.priority) (priority-says least q.priority s)
    (over_second (codes "prio=") (third ++ rest) refl (over_third (codes "prio=") rest refl d.0)) in
    let two : option_in (codes "cc=") congestion_of absent (second ++ (third ++ rest)) ≡ (q.congestion, third ++ rest) =
    option-back (codes "cc=") congestion_of absent q.congestion (is_congestion absent q.congestion) (congestion_word q.congestion)
    (third ++ rest) refl (congestion-same absent q.congestion) (congestion-says q.congestion)
    (over_third (codes "cc=") rest refl d.1.0) in
    let three : option_in (codes "express=") flag_of false (third ++ rest) ≡ (q.express, rest) =
    option-back (codes "express=") flag_of false q.express (not q.express) (flag_digit q.express) rest refl
    (express-same q.express) (flag-says q.express) d.1.1.0 in
    ap (qos_in least absent)
    (append_assoc first (second ++ third) rest ∙ ap (λ (fields : List (List ℕ)). first ++ fields) (append_assoc second third rest))
    ∙ rw one (rw two (rw three refl))

abbrev with_reliable : QoSType × List (List ℕ) → PublicationQuality × List (List ℕ)
with_reliable service =
    let flag = option_in (codes "rel=") flag_of true service.1 in
    (record { qos = service.0; reliable = flag.0 }, flag.1)

quality-back : (q : PublicationQuality) → says_priority 1 q.qos.priority ≡ true → (rest : List (List ℕ))
    → AllDeclined (codes "prio=" ∷ codes "cc=" ∷ codes "express=" ∷ codes "rel=" ∷ []) rest
    → quality_in (quality_fields q ++ rest) ≡ (q, rest)
quality-back q s rest d =
    let last = reliable_fields q.reliable in
    let over_last = over-unless (codes "rel=") (flag_digit q.reliable) q.reliable in
    let service : qos_in 1 Drop (qos_fields Drop q.qos ++ (last ++ rest)) ≡ (q.qos, last ++ rest) =
    qos-back 1 Drop q.qos s (last ++ rest)
    (over_last (codes "prio=") rest refl d.0, (over_last (codes "cc=") rest refl d.1.0, (over_last (codes "express=") rest refl d.1.1.0, tt))) in
    let flag : option_in (codes "rel=") flag_of true (last ++ rest) ≡ (q.reliable, rest) =
    option-back (codes "rel=") flag_of true q.reliable q.reliable (flag_digit q.reliable) rest refl
    (flag-same q.reliable) (flag-says q.reliable) d.1.1.1.0 in
    ap quality_in (append_assoc (qos_fields Drop q.qos) last rest) ∙ ap with_reliable service ∙ rw flag refl

reply-quality-back : (q : ReplyQuality) → if_there (λ n. says_priority 1 n) q.priority ≡ true → (rest : List (List ℕ))
    → AllDeclined (codes "prio=" ∷ codes "cc=" ∷ codes "express=" ∷ []) rest
    → reply_quality_in (reply_quality_fields q ++ rest) ≡ (q, rest)
reply-quality-back q s rest d =
    let first = field_if priority_field q.priority in
    let second = field_if congestion_field q.congestion in
    let third = field_if express_field q.express in
    let over_third = over-if (codes "express=") flag_digit q.express in
    let over_second = over-if (codes "cc=") congestion_word q.congestion in
    let one : maybe_in (codes "prio=") (priority_of 1) (first ++ (second ++ (third ++ rest))) ≡ (q.priority, second ++ (third ++ rest)) =
    maybe-same (codes "prio=") (priority_of 1) decimal q.priority (second ++ (third ++ rest)) refl
    (λ n same. priority-says 1 n (there (λ m. says_priority 1 m) q.priority s n same))
    (over_second (codes "prio=") (third ++ rest) refl (over_third (codes "prio=") rest refl d.0)) in
    let two : maybe_in (codes "cc=") congestion_of (second ++ (third ++ rest)) ≡ (q.congestion, third ++ rest) =
    maybe-same (codes "cc=") congestion_of congestion_word q.congestion (third ++ rest) refl
    (λ congestion _. congestion-says congestion) (over_third (codes "cc=") rest refl d.1.0) in
    let three : maybe_in (codes "express=") flag_of (third ++ rest) ≡ (q.express, rest) =
    maybe-same (codes "express=") flag_of flag_digit q.express rest refl (λ flag _. flag-says flag) d.1.1.0 in
    ap reply_quality_in
    (append_assoc first (second ++ third) rest ∙ ap (λ (fields : List (List ℕ)). first ++ fields) (append_assoc second third rest))
    ∙ rw one (rw two (rw three refl))

-- flags and channels
any-key-back : (flag : Bool) (rest : List (List ℕ)) → named_in (codes "accept=") rest ≡ None
    → option_in (codes "accept=") any_key_of false (unless (not flag) (codes "accept=any") ++ rest) ≡ (flag, rest)
any-key-back true rest none = refl
any-key-back false rest none = rw none refl

nothing-behind : (rest : List (List ℕ)) → named_in [] rest ≡ None → rest ≡ []
nothing-behind [] h = refl
nothing-behind (field ∷ rest) h = cc

channel-back : (c : Chan) → says_channel c ≡ true → (rest : List (List ℕ)) → named_in [] rest ≡ None
    → taken Print (unless (is_print c) (channel_text c) ++ rest)
    (option_and_then channel_of (first_of (unless (is_print c) (channel_text c) ++ rest))) ≡ (c, rest)
channel-back Print s rest none = rw (nothing-behind rest none) refl
channel-back (Fifo n) s rest none = rw (channel-says (Fifo n) s) refl
channel-back (Ring n) s rest none = rw (channel-says (Ring n) s) refl

-- every part
pub back : (part : Part) (v : Value part) → is_sound part ≡ true → says part v ≡ true → is_typed part v ≡ true → (rest : List (List ℕ))
    → AllDeclined (asks part) rest → read part (shown part v ++ rest) ≡ Some (kept part v, rest)
unfolding read shown says is_typed kept written
back (number most) n sound s t rest d = first-back (number_of most) (decimal n) n rest (number-says most n sound t)
back locality l sound s t rest d = first-back locality_of (locality_word l) l rest (locality-says l)
back background_kind kind sound s t rest d = first-back background_kind_of (background_word kind) kind rest (background-says kind)
back parent kind sound s t rest d = first-back parent_of (parent_word kind) kind rest (parent-says kind)
back complete flag sound s t rest d = first-back complete_of (complete_word flag) flag rest (complete-says flag)
back history flag sound s t rest d = first-back history_of (history_word flag) flag rest (history-says flag)
back key k sound s t rest d = first-back (λ field. Some (key_of field)) (key_text k) k rest (ap Some (key-says k s t))
back selector k sound s t rest d =
    let one = and_parts _ _ s in
    let two = and_parts _ _ one.1 in
    let typed = and_parts _ _ t in
    first-back (λ field. Some (selector_of field)) (selector_text k.0 k.1) k rest
    (ap Some (selector-says k.0 k.1 one.0 two.0 typed.0 typed.1))
back wire w sound s t rest d = first-back wire_of (wire_text w) w rest (wire-says w t)
back wire_if w sound s t rest d = ap Some (wire-if-back w s t rest d)
back payload bytes sound s t rest d = first-back payload_of (bytes_text bytes) (gathered bytes) rest (payload-says bytes t)
back (push_body kind) body sound s t rest d = body-back kind body s t rest d.0
back (own_body kind) body sound s t rest d = own-body-back kind body s t rest d.0
back parameters text sound s t rest d = ap Some (parameters-back (encode_utf8_all text) text rest (chars-encodes text t) d.0)
back target v sound s t rest d =
    ap Some (option-back (codes "target=") target_of BestMatching v (is_best v) (target_word v) rest refl (best-same v) (target-says v) d.0)
back consolidation v sound s t rest d =
    ap Some (option-back (codes "cons=") consolidation_of Auto v (is_auto v) (consolidation_word v) rest refl (auto-same v)
    (consolidation-says v) d.0)
back timeout v sound s t rest d =
    ap Some (maybe-same (codes "timeout=") (number_of u64_max) decimal v rest refl
    (λ n same. number-says u64_max n refl (there (λ m. nat_le m u64_max) v t n same)) d.0)
back value v sound s t rest d = ap Some (value-back v s t rest d)
back encoding text sound s t rest d = ap Some (encoding-back text rest s t d.0)
back timestamp v sound s t rest d =
    ap Some (maybe-same (codes "ts=") timestamp_of timestamp_text v rest refl (λ a same. timestamp-says a (there is_timestamp v t a same)) d.0)
back (qos least absent) q sound s t rest d = ap Some (qos-back least absent q s rest d)
back reliable flag sound s t rest d =
    ap Some (option-back (codes "rel=") flag_of true flag flag (flag_digit flag) rest refl (flag-same flag) (flag-says flag) d.0)
back quality q sound s t rest d = ap Some (quality-back q s rest d)
back reply_quality q sound s t rest d = ap Some (reply-quality-back q s rest d)
back source v sound s t rest d =
    ap Some (maybe-same (codes "src=") source_of source_text v rest refl (λ a same. source-says a (there is_source v t a same)) d.0)
back attachment v sound s t rest d =
    ap Some (maybe-back (codes "att=") payload_of bytes_text gathered v rest refl (λ a same. payload-says a (there are_bytes v t a same)) d.0)
back responder v sound s t rest d =
    ap Some (maybe-same (codes "by=") entity_of entity_text v rest refl (λ a same. entity-says a (there is_entity v t a same)) d.0)
back any_key flag sound s t rest d = ap Some (any-key-back flag rest d.0)
back cancellation_token v sound s t rest d =
    ap Some (maybe-same (codes "token=") (number_of u32_max) decimal v rest refl
    (λ n same. number-says u32_max n refl (there (λ m. nat_le m u32_max) v t n same)) d.0)
back interest v sound s t rest d =
    ap Some (maybe-same (codes "interest=") (number_of u32_max) decimal v rest refl
    (λ n same. number-says u32_max n refl (there (λ m. nat_le m u32_max) v t n same)) d.0)
back channel c sound s t rest d = ap Some (channel-back c s rest d.0)
back handed_to c sound s t rest d =
    ap Some (option-back (codes "to=") channel_of Print c (is_print c) (channel_text c) rest refl (print-same c) (channel-says c s) d.0)
back channel_kind kind sound s t rest d = cc

-- and every part is passed over by names that differ from its heads
over-parameters : (bytes : List ℕ) → Over (codes "params=" ∷ []) (parameter_fields bytes)
over-parameters [] name rest apart h = h
over-parameters (b ∷ bs) name rest apart h = over-field (codes "params=") (b ∷ bs) [] name rest apart h

over-value : (v : Option QueryValue) → Over (codes "payload=" ∷ []) (shown value v)
unfolding shown
over-value None name rest apart h = h
over-value (Some v) name rest apart h =
    over-field (codes "payload=") (bytes_text v.payload) (encoding_fields v.encoding) name rest apart h

over-encoding : (text : List ℕ) → Over (codes "enc=" ∷ []) (encoding_fields text)
over-encoding text = over-if (codes "enc=") encode_utf8_all (named_encoding text)

over-qos : (absent : CongestionControl) (q : QoSType) → Over (codes "prio=" ∷ codes "cc=" ∷ codes "express=" ∷ []) (qos_fields absent q)
over-qos absent q =
    over-append (codes "prio=" ∷ []) (codes "cc=" ∷ codes "express=" ∷ []) _ _
    (over-unless (codes "prio=") (decimal q.priority) (q.priority == 5))
    (over-append (codes "cc=" ∷ []) (codes "express=" ∷ []) _ _
    (over-unless (codes "cc=") (congestion_word q.congestion) (is_congestion absent q.congestion))
    (over-unless (codes "express=") (flag_digit q.express) (not q.express)))

over-reply-quality : (q : ReplyQuality) → Over (codes "prio=" ∷ codes "cc=" ∷ codes "express=" ∷ []) (reply_quality_fields q)
over-reply-quality q =
    over-append (codes "prio=" ∷ []) (codes "cc=" ∷ codes "express=" ∷ []) _ _ (over-if (codes "prio=") decimal q.priority)
    (over-append (codes "cc=" ∷ []) (codes "express=" ∷ []) _ _ (over-if (codes "cc=") congestion_word q.congestion)
    (over-if (codes "express=") flag_digit q.express))

pub over : (part : Part) (v : Value part) → Over (heads part) (shown part v)
unfolding shown written
over (number most) v = over-any (shown (number most) v)
over locality v = over-any (shown locality v)
over background_kind v = over-any (shown background_kind v)
over parent v = over-any (shown parent v)
over complete v = over-any (shown complete v)
over history v = over-any (shown history v)
over key v = over-any (shown key v)
over selector v = over-any (shown selector v)
over wire v = over-any (shown wire v)
over wire_if v = over-any (shown wire_if v)
over payload v = over-any (shown payload v)
over (push_body kind) v = over-any (shown (push_body kind) v)
over (own_body kind) v = over-any (shown (own_body kind) v)
over parameters text = over-parameters (encode_utf8_all text)
over target v = over-unless (codes "target=") (target_word v) (is_best v)
over consolidation v = over-unless (codes "cons=") (consolidation_word v) (is_auto v)
over timeout v = over-if (codes "timeout=") decimal v
over value v = over-value v
over encoding text = over-encoding text
over timestamp v = over-if (codes "ts=") timestamp_text v
over (qos least absent) q = over-qos absent q
over reliable flag = over-unless (codes "rel=") (flag_digit flag) flag
over quality q =
    over-append (codes "prio=" ∷ codes "cc=" ∷ codes "express=" ∷ []) (codes "rel=" ∷ []) _ _ (over-qos Drop q.qos)
    (over-unless (codes "rel=") (flag_digit q.reliable) q.reliable)
over reply_quality q = over-reply-quality q
over source v = over-if (codes "src=") source_text v
over attachment v = over-if (codes "att=") bytes_text v
over responder v = over-if (codes "by=") entity_text v
over any_key flag = over-unless (codes "accept=") (codes "any") (not flag)
over cancellation_token v = over-if (codes "token=") decimal v
over interest v = over-if (codes "interest=") decimal v
over channel v = over-any (shown channel v)
over handed_to c = over-unless (codes "to=") (channel_text c) (is_print c)
over channel_kind v = over-any (shown channel_kind v)
