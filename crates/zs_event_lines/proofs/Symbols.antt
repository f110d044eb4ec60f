-- The symbols of lines are read as what was printed.
use Rattle.std.proofs.Common.{ℕ, suc, ◌≡◌, ◌+◌, ◌≤◌, ◌==◌, Bool, true, false, not, ◌&&◌, nat_lt, List, [], ◌∷◌, ◌++◌, length, take, drop, Option, Some, None, option_map, refl, ap, ◌∙◌, arith, decimal, encode_utf8_all, lit<, append_assoc}
use Rattle.std.specs.Prelude.{nat_le}
use Rattle.std.specs.List.{position, position_or_len, before_first, after_first}
use Rattle.std.specs.Str.{all_scalars}
use Rattle.std.proofs.lemmas.Bool.{and_parts, leb-true, le-leb, lt-ltb, not-true}
use Rattle.std.proofs.lemmas.List.{append-nil, length-append}
use Rattle.std.proofs.lemmas.Str.{chars-encodes}
use Rattle.zs_sample.specs.declared.locality.Locality.{Locality}
use Rattle.zs_sample.specs.declared.locality.Locality.TheVariants.{SessionLocal, Remote, Any}
use Rattle.zs_wire.specs.declared.origin.EntityGlobalId.{EntityGlobalId}
use Rattle.zs_wire.specs.declared.origin.SourceInfo.{SourceInfo}
use Rattle.zs_wire.specs.declared.origin.Timestamp.{Timestamp}
use Rattle.zs_wire.specs.declared.quality.CongestionControl.{CongestionControl}
use Rattle.zs_wire.specs.declared.quality.CongestionControl.TheVariants.{Drop, Block}
use Rattle.zs_wire.specs.declared.request.ConsolidationMode.{ConsolidationMode}
use Rattle.zs_wire.specs.declared.request.ConsolidationMode.TheVariants.{Auto, None as keep_all, Monotonic, Latest}
use Rattle.zs_wire.specs.declared.request.QueryTarget.{QueryTarget}
use Rattle.zs_wire.specs.declared.request.QueryTarget.TheVariants.{BestMatching, All, AllComplete}
use Rattle.zs_wire.specs.declared.wire_expr.Mapping.{Mapping}
use Rattle.zs_wire.specs.declared.wire_expr.Mapping.TheVariants.{Sender, Receiver}
use Rattle.zs_wire.specs.declared.wire_expr.WireExpr.{WireExpr}
use Rattle.zs_events.specs.declared.chan.Chan.{Chan}
use Rattle.zs_events.specs.declared.chan.Chan.TheVariants.{Print, Fifo, Ring}
use Rattle.zs_events.specs.declared.entity_kind.BackgroundKind.{BackgroundKind}
use Rattle.zs_events.specs.declared.entity_kind.BackgroundKind.TheVariants.{Sub as background_sub, Queryable as background_queryable, Listener as background_listener, Lsub as background_lsub}
use Rattle.zs_events.specs.declared.entity_kind.EntityKind.{EntityKind}
use Rattle.zs_events.specs.declared.entity_kind.EntityKind.TheVariants.{Sub as sub_kind, Pub as pub_kind, Queryable as queryable_kind, Querier as querier_kind, Listener as listener_kind, Token as token_kind, Lsub as lsub_kind}
use Rattle.zs_events.specs.declared.entity_kind.ParentKind.{ParentKind}
use Rattle.zs_events.specs.declared.entity_kind.ParentKind.TheVariants.{Pub as pub_parent, Querier as querier_parent}
use Rattle.zs_events.specs.declared.key_arg.KeyArg.{KeyArg}
use Rattle.zs_events.specs.declared.key_arg.KeyArg.TheVariants.{Text, Number, Declared}
use Rattle.zs_parts.specs.Hexadecimal.{hex_of}
use Rattle.zs_parts.specs.Symbols.{number_of, u16_max, u32_max, u64_max, is_colon, locality_of, entity_kind_of, background_kind_of, parent_of, complete_of, history_of, numbered_of, key_of, scoped_of, wire_of}
use Rattle.zs_parts.specs.Options.{cut_of, timestamp_of, entity_of, two_numbers_of, source_of, congestion_of, flag_of, target_of, consolidation_of, priority_of}
use Rattle.zs_parts.specs.Channels.{size_of, channel_of}
use Rattle.zs_parts.specs.Parts.{selector_of}
use Rattle.zs_printing.specs.Words.{congestion_word, flag_digit, complete_word, target_word, consolidation_word, mapping_letter, wire_text, timestamp_text, entity_text, source_text, hex_text}
use Rattle.zs_event_lines.specs.Shown.{locality_word, entity_word, background_word, parent_word, history_word, suffix_text, key_text, question_text, selector_text, channel_text}
use Rattle.zs_event_lines.specs.Sayable.{is_missing, says_key, has_no_question, says_priority, says_channel, is_key, is_wire, is_timestamp, is_entity, is_source}
use Rattle.zs_event_lines.proofs.Digits.{is_free, free-append, number-says, decimal-free, hex-says, hex-free}

-- words
pub locality-says : (l : Locality) → locality_of (locality_word l) ≡ Some l
locality-says Any = refl
locality-says SessionLocal = refl
locality-says Remote = refl

pub entity-kind-says : (kind : EntityKind) → entity_kind_of (entity_word kind) ≡ Some kind
entity-kind-says sub_kind = refl
entity-kind-says pub_kind = refl
entity-kind-says queryable_kind = refl
entity-kind-says querier_kind = refl
entity-kind-says listener_kind = refl
entity-kind-says token_kind = refl
entity-kind-says lsub_kind = refl

pub background-says : (kind : BackgroundKind) → background_kind_of (background_word kind) ≡ Some kind
background-says background_sub = refl
background-says background_queryable = refl
background-says background_listener = refl
background-says background_lsub = refl

pub parent-says : (kind : ParentKind) → parent_of (parent_word kind) ≡ Some kind
parent-says pub_parent = refl
parent-says querier_parent = refl

pub complete-says : (flag : Bool) → complete_of (complete_word flag) ≡ Some flag
complete-says true = refl
complete-says false = refl

pub history-says : (flag : Bool) → history_of (history_word flag) ≡ Some flag
history-says true = refl
history-says false = refl

pub congestion-says : (congestion : CongestionControl) → congestion_of (congestion_word congestion) ≡ Some congestion
congestion-says Drop = refl
congestion-says Block = refl

pub flag-says : (flag : Bool) → flag_of (flag_digit flag) ≡ Some flag
flag-says true = refl
flag-says false = refl

pub target-says : (t : QueryTarget) → target_of (target_word t) ≡ Some t
target-says BestMatching = refl
target-says All = refl
target-says AllComplete = refl

pub consolidation-says : (mode : ConsolidationMode) → consolidation_of (consolidation_word mode) ≡ Some mode
consolidation-says Auto = refl
consolidation-says keep_all = refl
consolidation-says Monotonic = refl
consolidation-says Latest = refl

-- priorities and sizes
pub priority-says : (least n : ℕ) → says_priority least n ≡ true → priority_of least (decimal n) ≡ Some n
priority-says least n h =
    let both = and_parts (nat_le least n) (nat_le n 7) h in
    rw (number-says 7 n refl both.1, both.0) refl

size-says : (n : ℕ) → (nat_le 1 n && nat_le n u16_max) ≡ true → size_of (decimal n) ≡ Some n
size-says n h =
    let both = and_parts (nat_le 1 n) (nat_le n u16_max) h in
    rw (number-says u16_max n refl both.1, both.0) refl

pub channel-says : (c : Chan) → says_channel c ≡ true → channel_of (channel_text c) ≡ Some c
channel-says Print h = refl
channel-says (Fifo n) h = ap (λ found. option_map Fifo found) (size-says n h)
channel-says (Ring n) h = ap (λ found. option_map Ring found) (size-says n h)

-- cuts at a sign
take-more : (n x : ℕ) (xs : List ℕ) → take (1 + n) (x ∷ xs) ≡ x ∷ take n xs
take-more n x xs =
    let more : 1 + n ≡ suc n = omega arith in
    rw more refl

drop-more : (n x : ℕ) (xs : List ℕ) → drop (1 + n + 1) (x ∷ xs) ≡ drop (n + 1) xs
drop-more n x xs =
    let more : 1 + n + 1 ≡ suc (n + 1) = omega arith in
    rw more refl

abbrev sign_at : ℕ → List ℕ → ℕ
sign_at sign xs = position_or_len (λ b. b == sign) xs

pub before-sign-none : (sign : ℕ) (xs : List ℕ) → is_free sign xs ≡ true
    → (before_first (λ b. b == sign) xs ≡ xs) × (after_first (λ b. b == sign) xs ≡ [])
before-sign-none sign [] h = (refl, refl)
before-sign-none sign (x ∷ xs) h =
    let both = and_parts (not (x == sign)) _ h in
    let more = before-sign-none sign xs both.1 in
    rw (not-true _ both.0)
    (take-more (sign_at sign xs) x xs ∙ ap (λ (ys : List ℕ). x ∷ ys) more.0, drop-more (sign_at sign xs) x xs ∙ more.1)

pub before-sign : (sign : ℕ) → (sign == sign) ≡ true → (xs ys : List ℕ) → is_free sign xs ≡ true
    → (before_first (λ b. b == sign) (xs ++ sign ∷ ys) ≡ xs) × (after_first (λ b. b == sign) (xs ++ sign ∷ ys) ≡ ys)
before-sign sign same [] ys h = rw same (refl, refl)
before-sign sign same (x ∷ xs) ys h =
    let both = and_parts (not (x == sign)) _ h in
    let more = before-sign sign same xs ys both.1 in
    let rest = xs ++ sign ∷ ys in
    rw (not-true _ both.0)
    (take-more (sign_at sign rest) x rest ∙ ap (λ (zs : List ℕ). x ∷ zs) more.0, drop-more (sign_at sign rest) x rest ∙ more.1)

-- the place of the first colon
colon-len : (xs ys : List ℕ) → is_free 58 xs ≡ true → position_or_len is_colon (xs ++ 58 ∷ ys) ≡ length xs
colon-len [] ys h = refl
colon-len (x ∷ xs) ys h =
    let both = and_parts (not (x == 58)) _ h in
    let more : 1 + length xs ≡ suc (length xs) = omega arith in
    rw (not-true _ both.0) (ap (λ n. 1 + n) (colon-len xs ys both.1) ∙ more)

colon-place : (xs ys : List ℕ) → is_free 58 xs ≡ true → position is_colon (xs ++ 58 ∷ ys) ≡ Some (length xs)
colon-place xs ys h =
    let less : nat_lt (length xs) (length (xs ++ 58 ∷ ys)) ≡ true =
    lt-ltb (length xs) (length (xs ++ 58 ∷ ys)) (omega (arith, length-append xs (58 ∷ ys))) in
    rw (colon-len xs ys h) (rw less refl)

before-place : (xs ys : List ℕ) → take (length xs) (xs ++ 58 ∷ ys) ≡ xs
before-place [] ys = refl
before-place (x ∷ xs) ys = ap (λ (zs : List ℕ). x ∷ zs) (before-place xs ys)

behind-place : (xs ys : List ℕ) → drop (length xs + 1) (xs ++ 58 ∷ ys) ≡ ys
behind-place [] ys = refl
behind-place (x ∷ xs) ys =
    let more : suc (length xs) + 1 ≡ suc (length xs + 1) = omega arith in
    rw more (behind-place xs ys)

cut-says : {A B C : Type 0} (make : A → B → C) (first : List ℕ → Option A) (second : List ℕ → Option B) (xs ys : List ℕ) (a : A) (b : B)
    → is_free 58 xs ≡ true → first xs ≡ Some a → second ys ≡ Some b
    → cut_of make first second (xs ++ 58 ∷ ys) ≡ Some (make a b)
cut-says make first second xs ys a b free one two =
    rw (colon-place xs ys free) (rw (before-place xs ys, behind-place xs ys) (rw (one, two) refl))

pub timestamp-says : (t : Timestamp) → is_timestamp t ≡ true → timestamp_of (timestamp_text t) ≡ Some t
timestamp-says t h =
    let both = and_parts (nat_le t.time u64_max) _ h in
    cut-says (λ time id. record { time = time; id = id }) (number_of u64_max) hex_of (decimal t.time) (hex_text t.id) t.time t.id
    (decimal-free 58 t.time (lit< tt) both.0) (number-says u64_max t.time refl both.0) (hex-says t.id both.1)

pub entity-says : (e : EntityGlobalId) → is_entity e ≡ true → entity_of (entity_text e) ≡ Some e
entity-says e h =
    let both = and_parts (nat_lt e.zid _) _ h in
    cut-says (λ zid eid. record { zid = zid; eid = eid }) hex_of (number_of u32_max) (hex_text e.zid) (decimal e.eid) e.zid e.eid
    (hex-free e.zid) (hex-says e.zid both.0) (number-says u32_max e.eid refl both.1)

small-number : (n : ℕ) → nat_le n u32_max ≡ true → nat_le n u64_max ≡ true
small-number n h = let small : n ≤ u32_max = leb-true n u32_max h in le-leb n u64_max (omega (arith, small))

two-numbers-say : (m n : ℕ) → nat_le m u32_max ≡ true → nat_le n u32_max ≡ true
    → two_numbers_of (decimal m ++ 58 ∷ decimal n) ≡ Some (m, n)
two-numbers-say m n h k =
    cut-says (λ first second. (first, second)) (number_of u32_max) (number_of u32_max) (decimal m) (decimal n) m n
    (decimal-free 58 m (lit< tt) (small-number m h)) (number-says u32_max m refl h) (number-says u32_max n refl k)

pub source-says : (s : SourceInfo) → is_source s ≡ true → source_of (source_text s) ≡ Some s
source-says s h =
    let both = and_parts (is_entity s.source_id) _ h in
    let id = and_parts (nat_lt s.source_id.zid _) _ both.0 in
    ap source_of (append_assoc (hex_text s.source_id.zid) (58 ∷ decimal s.source_id.eid) (58 ∷ decimal s.source_sn))
    ∙ cut-says (λ zid (numbers : ℕ × ℕ). record { source_id = record { zid = zid; eid = numbers.0 }; source_sn = numbers.1 })
    hex_of two_numbers_of (hex_text s.source_id.zid) (decimal s.source_id.eid ++ 58 ∷ decimal s.source_sn)
    s.source_id.zid (s.source_id.eid, s.source_sn)
    (hex-free s.source_id.zid) (hex-says s.source_id.zid id.0) (two-numbers-say s.source_id.eid s.source_sn id.1 both.1)

-- wire expressions
key-number : (n : ℕ) → nat_le n u16_max ≡ true → nat_le n u64_max ≡ true
key-number n h = let small : n ≤ u16_max = leb-true n u16_max h in le-leb n u64_max (omega (arith, small))

scoped-says : (mapping : Mapping) (n : ℕ) (text : List ℕ) → nat_le n u16_max ≡ true → all_scalars text ≡ true
    → scoped_of mapping (decimal n ++ 58 ∷ encode_utf8_all text) ≡ Some (record { scope = n; suffix = text; mapping = mapping })
scoped-says mapping n text h k =
    let bytes = encode_utf8_all text in
    let free = decimal-free 58 n (lit< tt) (key-number n h) in
    rw (colon-place (decimal n) bytes free)
    (rw (before-place (decimal n) bytes, behind-place (decimal n) bytes)
    (rw (number-says u16_max n refl h, chars-encodes text k) refl))

pub wire-says : (w : WireExpr) → is_wire w ≡ true → wire_of (wire_text w) ≡ Some w
wire-says w h = go w.mapping
  where
    go : (mapping : Mapping)
        → wire_of (mapping_letter mapping ∷ (decimal w.scope ++ 58 ∷ encode_utf8_all w.suffix))
        ≡ Some (record { scope = w.scope; suffix = w.suffix; mapping = mapping })
    go Sender = let both = and_parts (nat_le w.scope u16_max) _ h in scoped-says Sender w.scope w.suffix both.0 both.1
    go Receiver = let both = and_parts (nat_le w.scope u16_max) _ h in scoped-says Receiver w.scope w.suffix both.0 both.1

-- keys
missing-none : {A : Type 0} (o : Option A) → is_missing o ≡ true → o ≡ None
missing-none None h = refl
missing-none (Some a) h = cc

suffix-cut : (n : ℕ) (bytes : List ℕ) → nat_le n u16_max ≡ true
    → (before_first is_colon (decimal n ++ suffix_text bytes) ≡ decimal n) × (after_first is_colon (decimal n ++ suffix_text bytes) ≡ bytes)
suffix-cut n [] h =
    rw (append-nil (decimal n)) (before-sign-none 58 (decimal n) (decimal-free 58 n (lit< tt) (key-number n h)))
suffix-cut n (b ∷ bs) h = before-sign 58 refl (decimal n) (b ∷ bs) (decimal-free 58 n (lit< tt) (key-number n h))

pub key-says : (k : KeyArg) → says_key k ≡ true → is_key k ≡ true → key_of (key_text k) ≡ k
key-says (Text text) h k =
    let both = and_parts _ (is_missing (numbered_of (encode_utf8_all text))) h in
    rw (missing-none (numbered_of (encode_utf8_all text)) both.1) (ap Text (chars-encodes text k))
key-says (Number n text) h k =
    let both = and_parts (nat_le n u16_max) _ k in
    let bytes = encode_utf8_all text in
    let cut = suffix-cut n bytes both.0 in
    rw (cut.0, cut.1) (rw (number-says u16_max n refl both.0, chars-encodes text both.1) refl)
key-says (Declared text n size) h k = cc

-- keys and parameters
suffix-free : (bytes : List ℕ) → is_free 63 bytes ≡ true → is_free 63 (suffix_text bytes) ≡ true
suffix-free [] h = refl
suffix-free (b ∷ bs) h = h

key-free : (k : KeyArg) → has_no_question k ≡ true → is_key k ≡ true → is_free 63 (key_text k) ≡ true
key-free (Text text) h k = h
key-free (Number n text) h k =
    let both = and_parts (nat_le n u16_max) _ k in
    free-append 63 (decimal n) (suffix_text (encode_utf8_all text)) (decimal-free 63 n (lit< tt) (key-number n both.0))
    (suffix-free (encode_utf8_all text) h)
key-free (Declared text n size) h k = cc

question-cut : (xs bytes : List ℕ) → is_free 63 xs ≡ true
    → (before_first (λ b. b == 63) (xs ++ question_text bytes) ≡ xs) × (after_first (λ b. b == 63) (xs ++ question_text bytes) ≡ bytes)
question-cut xs [] h = rw (append-nil xs) (before-sign-none 63 xs h)
question-cut xs (b ∷ bs) h = before-sign 63 refl xs (b ∷ bs) h

pub selector-says : (k : KeyArg) (text : List ℕ) → says_key k ≡ true → has_no_question k ≡ true → is_key k ≡ true
    → all_scalars text ≡ true → selector_of (selector_text k text) ≡ (k, text)
selector-says k text h free typed scalars =
    let cut = question-cut (key_text k) (encode_utf8_all text) (key-free k free typed) in
    rw (cut.0, cut.1) (rw (key-says k h typed, chars-encodes text scalars) refl)
