-- What the symbols of lines are read as can be said, and is as its type says.
use Rattle.std.proofs.Common.{ℕ, zero, suc, ◌≡◌, ◌+◌, ◌-◌, ◌*◌, ◌<◌, ◌≤◌, ◌==◌, true, false, not, ◌&&◌, List, [], ◌∷◌, length, take, drop, Option, Some, None, IfSome, option_map, option_and_then, unwrap_or, refl, ap, ◌∙◌, arith, cond, codes, lit<}
use Rattle.std.specs.Prelude.{nat_le, nat_lt, Result, Ok, Err}
use Rattle.std.specs.List.{list_all, position, position_or_len, before_first, after_first}
use Rattle.std.specs.Result.{result_ok}
use Rattle.std.specs.Str.{all_scalars, chars}
use Rattle.std.proofs.lemmas.Bool.{and_parts, and_from, lt-ltb, leb-true, ne_eqb}
use Rattle.std.proofs.lemmas.List.{append-nil}
use Rattle.std.proofs.lemmas.Str.{encodes-chars}
use Rattle.hex.specs.Hex.{IsBytes, decode_of}
use Rattle.hex.specs.declared.error.FromHexError.{FromHexError}
use Rattle.hex.proofs.HexLemmas.{decode_of-ok}
use Rattle.zs_bytes.specs.Payload.{bytes_of, one_slice}
use Rattle.zs_sample.specs.Encoding.{encoding_of}
use Rattle.zs_wire.specs.declared.wire_expr.Mapping.{Mapping}
use Rattle.zs_wire.specs.declared.wire_expr.Mapping.TheVariants.{Sender, Receiver}
use Rattle.zs_wire.specs.declared.wire_expr.WireExpr.{WireExpr}
use Rattle.zs_events.specs.declared.chan.Chan.{Chan}
use Rattle.zs_events.specs.declared.chan.Chan.TheVariants.{Print, Fifo, Ring}
use Rattle.zs_events.specs.declared.key_arg.KeyArg.{KeyArg}
use Rattle.zs_events.specs.declared.key_arg.KeyArg.TheVariants.{Text, Number}
use Rattle.zs_events.specs.Updates.{default_encoding}
use Rattle.zs_parts.specs.Hexadecimal.{digit_of, hex_from, hex_of}
use Rattle.zs_parts.specs.Symbols.{is_digit, number_from, number_of, u16_max, u32_max, u64_max, is_colon, numbered_of, key_of, after_prefix, scoped_of, scoped_in, wire_of, payload_of}
use Rattle.zs_parts.specs.Options.{cut_of, timestamp_of, entity_of, two_numbers_of, source_of, at_least, priority_of}
use Rattle.zs_parts.specs.Channels.{size_of, sized_in, channel_of}
use Rattle.zs_parts.specs.Parts.{selector_of}
use Rattle.zs_script.specs.Plain.{is_plain_text}
use Rattle.zs_script.proofs.PlainSymbols.{IsText, on-map, on-then, on-any, on-choice, prefix-text, chars-plain, wire-plain, before-sign, behind-sign}
use Rattle.zs_script.proofs.PlainParts.{default-plain}
use Rattle.zs_event_lines.specs.Sayable.{is_missing, says_key, has_no_question, says_encoding, says_priority, says_channel, hex_end, are_bytes, is_key, is_wire, is_timestamp, is_entity, is_source, gathered}
use Rattle.zs_event_lines.proofs.Digits.{is_free}

-- what holds of each value that there may be
pub weaken : {A : Type 0} (P Q : A → Type 0) → ((a : A) → P a → Q a) → (o : Option A) → IfSome o P → IfSome o Q
weaken P Q each None h = tt
weaken P Q each (Some a) h = each a h

pub on-all : {A : Type 0} (P : A → Type 0) → ((a : A) → P a) → (o : Option A) → IfSome o P
on-all P each None = tt
on-all P each (Some a) = each a

both-if : {A : Type 0} (P Q : A → Type 0) (o : Option A) → IfSome o P → IfSome o Q → IfSome o (λ a. P a × Q a)
both-if P Q None h k = tt
both-if P Q (Some a) h k = (h, k)

known-if : {A : Type 0} (P : A → Type 0) (o : Option A) → ((a : A) → o ≡ Some a → P a) → IfSome o P
known-if P None each = tt
known-if P (Some a) each = each a refl

-- a number in decimal digits
number-from-small : (most n : ℕ) (ds : List ℕ) → IfSome (number_from most n ds) (λ m. nat_le m most ≡ true)
number-from-small most n [] =
    elim (nat_le n most) as (λ t. nat_le n most ≡ t → IfSome (cond t (Some n) None) (λ m. nat_le m most ≡ true))
    [ true ↦ λ e. e | false ↦ λ e. tt ] refl
number-from-small most n (b ∷ bs) =
    on-choice (is_digit b && nat_le n most) (λ m. nat_le m most ≡ true) (number_from most (10 * n + (b - 48)) bs) None
    (number-from-small most (10 * n + (b - 48)) bs) tt

pub number-small : (most : ℕ) (text : List ℕ) → IfSome (number_of most text) (λ n. nat_le n most ≡ true)
number-small most [] = tt
number-small most (b ∷ []) = number-from-small most 0 (b ∷ [])
number-small most (b ∷ c ∷ bs) =
    on-choice (b == 48) (λ n. nat_le n most ≡ true) None (number_from most 0 (b ∷ c ∷ bs)) tt
    (number-from-small most 0 (b ∷ c ∷ bs))

-- a number in hexadecimal digits
abbrev bound_after : ℕ → ℕ → ℕ
bound_after b zero = b
bound_after b (suc places) = bound_after (16 * b) places

bound-grows : (places b : ℕ) → b ≤ bound_after b places
bound-grows zero b = omega arith
bound-grows (suc places) b = let more = bound-grows places (16 * b) in omega (arith, more)

digit-is-small : (b d : ℕ) → digit_of b ≡ Some d → d < 16
digit-is-small b d h = grind (arith)

hex-from-small : (places n b : ℕ) (ds : List ℕ) → length ds ≤ places → n < b → IfSome (hex_from n ds) (λ m. m < bound_after b places)
hex-from-small zero n b [] h less = less
hex-from-small zero n b (d ∷ ds) h less = absurd (omega (arith, h))
hex-from-small (suc places) n b [] h less = let more = bound-grows places (16 * b) in omega (arith, less, more)
hex-from-small (suc places) n b (d ∷ ds) h less =
    on-then (λ digit. hex_from (16 * n + digit) ds) (λ digit. digit < 16) (λ m. m < bound_after (16 * b) places)
    (λ digit small. hex-from-small places (16 * n + digit) (16 * b) ds (omega (arith, h)) (omega (arith, less, small)))
    (digit_of d) (known-if (λ digit. digit < 16) (digit_of d) (digit-is-small d))

abbrev IsHex : ℕ → Type 0
IsHex n = nat_lt n hex_end ≡ true

hex-from-bound : (ds : List ℕ) → length ds ≤ 32 → IfSome (hex_from 0 ds) IsHex
hex-from-bound ds h =
    weaken (λ m. m < bound_after 1 32) IsHex (λ m less. lt-ltb m hex_end less) (hex_from 0 ds)
    (hex-from-small 32 0 1 ds h (omega arith))

hex-small : (text : List ℕ) → IfSome (hex_of text) IsHex
hex-small [] = tt
hex-small (b ∷ []) = hex-from-bound (b ∷ []) (omega arith)
hex-small (b ∷ c ∷ bs) =
    on-choice (b == 48) IsHex None _ tt
    (elim (nat_le (length (b ∷ c ∷ bs)) 32) as (λ t. nat_le (length (b ∷ c ∷ bs)) 32 ≡ t → IfSome (cond t (hex_from 0 (b ∷ c ∷ bs)) None) IsHex)
    [ true ↦ λ e. hex-from-bound (b ∷ c ∷ bs) (leb-true (length (b ∷ c ∷ bs)) 32 e) | false ↦ λ e. tt ] refl)

-- payloads: bytes, in one slice
abbrev pub IsPayload : List (List ℕ) → Type 0
IsPayload bytes = (are_bytes bytes ≡ true) × (gathered bytes ≡ bytes)

are-small : (bytes : List ℕ) → IsBytes bytes → list_all (λ b. nat_lt b 256) bytes ≡ true
are-small [] h = refl
are-small (b ∷ bs) h = and_from _ _ (lt-ltb b 256 (h 0)) (are-small bs (λ i. h (suc i)))

slice-bytes : (bytes : List ℕ) → bytes_of (one_slice bytes) ≡ bytes
slice-bytes [] = refl
slice-bytes (b ∷ bs) =
    let some : (length (b ∷ bs) == 0) ≡ false = ne_eqb (length (b ∷ bs)) 0 (λ e. omega (arith, e)) in
    rw some (append-nil (b ∷ bs))

slice-said : (bytes : List ℕ) → list_all (λ b. nat_lt b 256) bytes ≡ true → IsPayload (one_slice bytes)
slice-said bytes h =
    (ap (λ (bs : List ℕ). list_all (λ b. nat_lt b 256) bs) (slice-bytes bytes) ∙ h, ap one_slice (slice-bytes bytes))

decoded-small : (digits : List ℕ) → IfSome (result_ok (decode_of digits)) (λ bytes. list_all (λ b. nat_lt b 256) bytes ≡ true)
decoded-small digits = go (decode_of digits) refl
  where
    go : (r : Result (List ℕ) FromHexError) → decode_of digits ≡ r → IfSome (result_ok r) (λ bytes. list_all (λ b. nat_lt b 256) bytes ≡ true)
    go (Ok bytes) e = are-small bytes (decode_of-ok digits bytes e).3
    go (Err why) e = tt

pub payload-reads : (text : List ℕ) → IfSome (payload_of text) IsPayload
payload-reads [] = tt
payload-reads (b ∷ digits) =
    on-choice (b == 120) IsPayload (option_map one_slice (result_ok (decode_of digits))) None
    (on-map one_slice (λ bytes. list_all (λ c. nat_lt c 256) bytes ≡ true) IsPayload slice-said (result_ok (decode_of digits))
    (decoded-small digits)) tt

-- texts
pub chars-said : (field : List ℕ) → IsText field → (is_plain_text (chars field) ≡ true) × (all_scalars (chars field) ≡ true)
chars-said field h = let both = and_parts (all_scalars (chars field)) _ (chars-plain field h) in (both.1, both.0)

-- encodings
abbrev pub IsEncoding : List ℕ → Type 0
IsEncoding text = (says_encoding text ≡ true) × (all_scalars text ≡ true)

pub default-said : IsEncoding default_encoding
default-said = let both = and_parts (all_scalars default_encoding) _ default-plain in (and_from _ _ refl both.1, both.0)

pub encoding-said : (text : List ℕ) → is_plain_text text ≡ true → all_scalars text ≡ true → IsEncoding (encoding_of text)
encoding-said [] h k = default-said
encoding-said (c ∷ cs) h k = (and_from _ _ refl h, k)

pub encoding-reads : (field : List ℕ) → IsText field → IsEncoding (encoding_of (chars field))
encoding-reads field h = let said = chars-said field h in encoding-said (chars field) said.0 said.1

-- keys
abbrev pub IsKey : KeyArg → Type 0
IsKey k = (says_key k ≡ true) × (is_key k ≡ true)

numbered-reads : (field : List ℕ) → IsText field → IfSome (numbered_of field) IsKey
numbered-reads field h =
    on-then (λ rest. option_map (λ n. Number n (chars (after_first is_colon rest))) (number_of u16_max (before_first is_colon rest)))
    IsText IsKey
    (λ rest k. on-map (λ n. Number n (chars (after_first is_colon rest))) (λ n. nat_le n u16_max ≡ true) IsKey
    (λ n small. let said = chars-said (after_first is_colon rest) (behind-sign 58 (lit< tt) rest k) in (said.0, and_from _ _ small said.1))
    (number_of u16_max (before_first is_colon rest)) (number-small u16_max (before_first is_colon rest)))
    (after_prefix (codes "#") field) (prefix-text (codes "#") field refl h)

pub key-reads : (field : List ℕ) → IsText field → IsKey (key_of field)
key-reads field h = go (numbered_of field) refl (numbered-reads field h)
  where
    go : (o : Option KeyArg) → numbered_of field ≡ o → IfSome o IsKey → IsKey (unwrap_or o (Text (chars field)))
    go None e k =
        let said = chars-said field h in
        (and_from _ _ said.0 (ap (λ (text : List ℕ). is_missing (numbered_of text)) (encodes-chars field h.1) ∙ ap is_missing e), said.1)
    go (Some found) e k = k

-- what has no question mark
free-drop : (sign n : ℕ) (text : List ℕ) → is_free sign text ≡ true → is_free sign (drop n text) ≡ true
free-drop sign zero text h = h
free-drop sign (suc n) [] h = refl
free-drop sign (suc n) (b ∷ bs) h = free-drop sign n bs (and_parts _ (is_free sign bs) h).1

take-more : (n x : ℕ) (xs : List ℕ) → take (1 + n) (x ∷ xs) ≡ x ∷ take n xs
take-more n x xs =
    let more : 1 + n ≡ suc n = omega arith in
    rw more refl

before-free : (sign : ℕ) (text : List ℕ) → is_free sign (before_first (λ b. b == sign) text) ≡ true
before-free sign [] = refl
before-free sign (x ∷ xs) =
    elim (x == sign) as (λ t. (x == sign) ≡ t → is_free sign (take (cond (not t) (1 + position_or_len (λ b. b == sign) xs) 0) (x ∷ xs)) ≡ true) [
      | true ↦ λ e. refl
      | false ↦ λ e.
          ap (is_free sign) (take-more (position_or_len (λ b. b == sign) xs) x xs)
          ∙ and_from _ _ (ap not e) (before-free sign xs)
    ] refl

prefix-free : (sign : ℕ) (front field : List ℕ) → is_free sign field ≡ true → IfSome (after_prefix front field) (λ rest. is_free sign rest ≡ true)
prefix-free sign [] field h = h
prefix-free sign (p ∷ ps) [] h = tt
prefix-free sign (p ∷ ps) (b ∷ bs) h =
    on-choice (p == b) (λ rest. is_free sign rest ≡ true) (after_prefix ps bs) None
    (prefix-free sign ps bs (and_parts _ (is_free sign bs) h).1) tt

abbrev IsFree : KeyArg → Type 0
IsFree k = has_no_question k ≡ true

numbered-free : (field : List ℕ) → IsText field → is_free 63 field ≡ true → IfSome (numbered_of field) IsFree
numbered-free field h free =
    on-then (λ rest. option_map (λ n. Number n (chars (after_first is_colon rest))) (number_of u16_max (before_first is_colon rest)))
    (λ rest. IsText rest × (is_free 63 rest ≡ true)) IsFree
    (λ rest k. on-map (λ n. Number n (chars (after_first is_colon rest))) (λ _. Unit {0}) IsFree
    (λ n _. ap (is_free 63) (encodes-chars (after_first is_colon rest) (behind-sign 58 (lit< tt) rest k.0).1)
    ∙ free-drop 63 (position_or_len is_colon rest + 1) rest k.1)
    (number_of u16_max (before_first is_colon rest)) (on-any _))
    (after_prefix (codes "#") field)
    (both-if IsText (λ rest. is_free 63 rest ≡ true) (after_prefix (codes "#") field) (prefix-text (codes "#") field refl h)
    (prefix-free 63 (codes "#") field free))

key-free : (field : List ℕ) → IsText field → is_free 63 field ≡ true → IsFree (key_of field)
key-free field h free = go (numbered_of field) (numbered-free field h free)
  where
    go : (o : Option KeyArg) → IfSome o IsFree → IsFree (unwrap_or o (Text (chars field)))
    go None k = ap (is_free 63) (encodes-chars field h.1) ∙ free
    go (Some found) k = k

abbrev pub IsSelector : KeyArg × List ℕ → Type 0
IsSelector s = IsKey s.0 × (IsFree s.0 × ((is_plain_text s.1 ≡ true) × (all_scalars s.1 ≡ true)))

pub selector-reads : (field : List ℕ) → IsText field → IsSelector (selector_of field)
selector-reads field h =
    let front = before-sign 63 (lit< tt) field h in
    (key-reads _ front, (key-free _ front (before-free 63 field), chars-said _ (behind-sign 63 (lit< tt) field h)))

-- wire expressions
abbrev pub IsWire : WireExpr → Type 0
IsWire w = (is_plain_text w.suffix ≡ true) × (is_wire w ≡ true)

abbrev HasSmallScope : WireExpr → Type 0
HasSmallScope w = nat_le w.scope u16_max ≡ true

scoped-small : (mapping : Mapping) (rest : List ℕ) → IfSome (scoped_of mapping rest) HasSmallScope
scoped-small mapping rest =
    on-then (λ place. option_map (λ scope. record { scope = scope; suffix = chars (drop (place + 1) rest); mapping = mapping })
    (number_of u16_max (take place rest))) (λ _. Unit {0}) HasSmallScope
    (λ place _. on-map (λ scope. record { scope = scope; suffix = chars (drop (place + 1) rest); mapping = mapping }) (λ n. nat_le n u16_max ≡ true)
    HasSmallScope (λ scope small. small) (number_of u16_max (take place rest)) (number-small u16_max (take place rest)))
    (position is_colon rest) (on-any _)

scoped-in-small : (mapping : Mapping) (rest : Option (List ℕ)) (other : Option WireExpr) → IfSome other HasSmallScope → IfSome (scoped_in mapping rest other) HasSmallScope
scoped-in-small mapping None other h = h
scoped-in-small mapping (Some rest) other h = scoped-small mapping rest

pub wire-reads : (field : List ℕ) → IsText field → IfSome (wire_of field) IsWire
wire-reads field h =
    weaken (λ (w : WireExpr). (all_scalars w.suffix && is_plain_text w.suffix ≡ true) × HasSmallScope w) IsWire
    (λ w k. let both = and_parts (all_scalars w.suffix) _ k.0 in (both.1, and_from _ _ k.1 both.0)) (wire_of field)
    (both-if (λ (w : WireExpr). all_scalars w.suffix && is_plain_text w.suffix ≡ true) HasSmallScope (wire_of field) (wire-plain field h)
    (scoped-in-small Sender (after_prefix (codes "s") field) (scoped_in Receiver (after_prefix (codes "r") field) None)
    (scoped-in-small Receiver (after_prefix (codes "r") field) None tt)))

-- what is cut at a colon
cut-reads : {A B C : Type 0} (make : A → B → C) (first : List ℕ → Option A) (second : List ℕ → Option B) (P : A → Type 0) (Q : B → Type 0)
    (R : C → Type 0) → ((text : List ℕ) → IfSome (first text) P) → ((text : List ℕ) → IfSome (second text) Q)
    → ((a : A) (b : B) → P a → Q b → R (make a b)) → (field : List ℕ) → IfSome (cut_of make first second field) R
cut-reads {A = A} {B = B} {C = C} make first second P Q R one two each field =
    on-then {A = ℕ} {B = C} (λ place. option_and_then (λ a. option_map (λ b. make a b) (second (drop (place + 1) field))) (first (take place field)))
    (λ _. Unit {0}) R
    (λ place _. on-then {A = A} {B = C} (λ a. option_map (λ b. make a b) (second (drop (place + 1) field))) P R
    (λ a p. on-map {A = B} {B = C} (λ b. make a b) Q R (λ b q. each a b p q) (second (drop (place + 1) field)) (two (drop (place + 1) field)))
    (first (take place field)) (one (take place field)))
    (position is_colon field) (on-any _)

pub timestamp-reads : (field : List ℕ) → IfSome (timestamp_of field) (λ t. is_timestamp t ≡ true)
timestamp-reads =
    cut-reads (λ time id. record { time = time; id = id }) (number_of u64_max) hex_of (λ n. nat_le n u64_max ≡ true) IsHex
    (λ t. is_timestamp t ≡ true) (number-small u64_max) hex-small (λ time id p q. and_from _ _ p q)

pub entity-reads : (field : List ℕ) → IfSome (entity_of field) (λ e. is_entity e ≡ true)
entity-reads =
    cut-reads (λ zid eid. record { zid = zid; eid = eid }) hex_of (number_of u32_max) IsHex (λ n. nat_le n u32_max ≡ true)
    (λ e. is_entity e ≡ true) hex-small (number-small u32_max) (λ zid eid p q. and_from _ _ p q)

abbrev AreNumbers : ℕ × ℕ → Type 0
AreNumbers two = (nat_le two.0 u32_max ≡ true) × (nat_le two.1 u32_max ≡ true)

two-numbers-read : (field : List ℕ) → IfSome (two_numbers_of field) AreNumbers
two-numbers-read =
    cut-reads (λ first second. (first, second)) (number_of u32_max) (number_of u32_max) (λ n. nat_le n u32_max ≡ true) (λ n. nat_le n u32_max ≡ true)
    AreNumbers (number-small u32_max) (number-small u32_max) (λ first second p q. (p, q))

pub source-reads : (field : List ℕ) → IfSome (source_of field) (λ s. is_source s ≡ true)
source-reads =
    cut-reads (λ zid (numbers : ℕ × ℕ). record { source_id = record { zid = zid; eid = numbers.0 }; source_sn = numbers.1 })
    hex_of two_numbers_of IsHex AreNumbers (λ s. is_source s ≡ true) hex-small two-numbers-read
    (λ zid numbers p q. and_from _ _ (and_from _ _ p q.0) q.1)

-- priorities and channels
at-least-reads : (least top n : ℕ) → nat_le n top ≡ true → IfSome (at_least least n) (λ m. (nat_le least m && nat_le m top) ≡ true)
at-least-reads least top n h =
    elim (nat_le least n) as (λ t. nat_le least n ≡ t → IfSome (cond t (Some n) None) (λ m. (nat_le least m && nat_le m top) ≡ true))
    [ true ↦ λ e. and_from _ _ e h | false ↦ λ e. tt ] refl

pub priority-reads : (least : ℕ) (field : List ℕ) → IfSome (priority_of least field) (λ n. says_priority least n ≡ true)
priority-reads least field =
    on-then (λ n. at_least least n) (λ n. nat_le n 7 ≡ true) (λ n. says_priority least n ≡ true) (at-least-reads least 7)
    (number_of 7 field) (number-small 7 field)

size-reads : (digits : List ℕ) → IfSome (size_of digits) (λ n. (nat_le 1 n && nat_le n u16_max) ≡ true)
size-reads digits =
    on-then (λ n. at_least 1 n) (λ n. nat_le n u16_max ≡ true) (λ n. (nat_le 1 n && nat_le n u16_max) ≡ true) (at-least-reads 1 u16_max)
    (number_of u16_max digits) (number-small u16_max digits)

abbrev pub IsChannel : Chan → Type 0
IsChannel c = says_channel c ≡ true

sized-reads : (make : ℕ → Chan) → ((n : ℕ) → (nat_le 1 n && nat_le n u16_max) ≡ true → IsChannel (make n)) → (rest : Option (List ℕ)) (other : Option Chan)
    → IfSome other IsChannel → IfSome (sized_in make rest other) IsChannel
sized-reads make each None other h = h
sized-reads make each (Some digits) other h =
    on-map make (λ n. (nat_le 1 n && nat_le n u16_max) ≡ true) IsChannel each (size_of digits) (size-reads digits)

pub channel-reads : (field : List ℕ) → IfSome (channel_of field) IsChannel
channel-reads field =
    on-choice _ IsChannel (Some Print) _ refl
    (sized-reads Fifo (λ n h. h) (after_prefix (codes "fifo:") field) (sized_in Ring (after_prefix (codes "ring:") field) None)
    (sized-reads Ring (λ n h. h) (after_prefix (codes "ring:") field) None tt))
