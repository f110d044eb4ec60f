-- What the symbols read off texts is plain.
use Rattle.std.proofs.Common.{ℕ, zero, suc, ◌≡◌, ◌+◌, ◌<◌, ◌≤◌, ◌==◌, Bool, true, false, not, nat_lt, List, [], ◌∷◌, length, get_or, take, drop, Option, Some, None, IfSome, refl, ap, ◌∙◌, arith, cond, codes, inl, inr, option_map, option_and_then, unwrap_or, lit<}
use Rattle.std.specs.List.{list_all, position, position_or_len, before_first, after_first, onto_first, AllByRecursion}
use Rattle.std.specs.Str.{IsUtf8, all_scalars, chars}
use Rattle.std.proofs.lemmas.Bool.{and_parts, and_from, cases_lt, eqb-true, ltb-true}
use Rattle.std.proofs.lemmas.List.Splits.{slice_split_first}
use Rattle.std.proofs.lemmas.List.Sums.{passes_at_first}
use Rattle.std.proofs.lemmas.List.{length-drop, take_all}
use Rattle.std.proofs.Math.ListN.{drop_of_length-le}
use Rattle.std.proofs.lemmas.Str.{IsUtf8-nil, IsUtf8-take, IsUtf8-drop, IsCharBoundary-before_ascii, IsCharBoundary-after_ascii, encodes-chars, scalars-chars}
use Rattle.std.proofs.lemmas.List.Quantifiers.{position-Some}
use Rattle.zs_wire.specs.declared.wire_expr.Mapping.{Mapping}
use Rattle.zs_wire.specs.declared.wire_expr.Mapping.TheVariants.{Sender, Receiver}
use Rattle.zs_wire.specs.declared.wire_expr.WireExpr.{WireExpr}
use Rattle.zs_events.specs.declared.key_arg.KeyArg.{KeyArg}
use Rattle.zs_events.specs.declared.key_arg.KeyArg.TheVariants.{Text, Number}
use Rattle.zs_lines.specs.Lines.{fields}
use Rattle.zs_parts.specs.Symbols.{number_of, u16_max, is_colon, numbered_of, key_of, after_prefix, scoped_of, scoped_in, wire_of}
use Rattle.zs_script.specs.Plain.{is_plain, is_plain_text, is_field_text, is_plain_key}

-- a text that can stand in a field
abbrev pub IsText : List ℕ → Type 0
IsText text = (is_plain text ≡ true) × IsUtf8 text

abbrev tab_at : List ℕ → ℕ
tab_at bytes = position_or_len (λ b. b == 9) bytes

-- the fields of a text are texts
fields-whole : (bs : List ℕ) → length bs ≤ tab_at bs → fields bs ≡ bs ∷ []
fields-whole [] h = refl
fields-whole (b ∷ bs) h =
    (elim (b == 9) as (λ t. length (b ∷ bs) ≤ cond (not t) (1 + tab_at bs) 0
    → cond t ([] ∷ fields bs) (onto_first b (fields bs)) ≡ (b ∷ bs) ∷ [])
    [ true ↦ λ m. absurd (omega arith) | false ↦ λ m. ap (onto_first b) (fields-whole bs (omega arith)) ]) h

pub fields-utf8 : (n : ℕ) (bs : List ℕ) → length bs ≤ n → IsUtf8 bs → AllByRecursion IsUtf8 (fields bs)
fields-utf8 zero [] h u = (IsUtf8-nil, tt)
fields-utf8 zero (b ∷ bs) h u = absurd (omega arith)
fields-utf8 (suc n) bs h u =
    elim (cases_lt (tab_at bs) (length bs)) [
      | inl lt ↦
          let is : get_or bs (tab_at bs) 0 ≡ 9 = eqb-true _ _ (passes_at_first (λ b. b == 9) bs 0 lt) in
          let before = IsUtf8-take bs (tab_at bs) u (IsCharBoundary-before_ascii bs (tab_at bs) lt (omega arith)) in
          let after = IsUtf8-drop bs (tab_at bs + 1) u (IsCharBoundary-after_ascii bs (tab_at bs) u lt (omega arith)) in
          rw (slice_split_first (λ b. b == 9) bs 0 lt)
          (before, fields-utf8 n (drop (tab_at bs + 1) bs) (omega (arith, length-drop (tab_at bs + 1) bs)) after)
      | inr ge ↦ rw (fields-whole bs ge) (u, tt)
    ]

pub both-texts : (parts : List (List ℕ)) → list_all is_plain parts ≡ true → AllByRecursion IsUtf8 parts
    → AllByRecursion IsText parts
both-texts [] h u = tt
both-texts (part ∷ parts) h u =
    let both = and_parts (is_plain part) (list_all is_plain parts) h in
    ((both.0, u.0), both-texts parts both.1 u.1)

-- what holds of each value that there may be
pub on-map : {A B : Type 0} (f : A → B) (P : A → Type 0) (Q : B → Type 0) → ((a : A) → P a → Q (f a)) → (o : Option A)
    → IfSome o P → IfSome (option_map f o) Q
on-map f P Q each None h = tt
on-map f P Q each (Some a) h = each a h

pub on-then : {A B : Type 0} (f : A → Option B) (P : A → Type 0) (Q : B → Type 0) → ((a : A) → P a → IfSome (f a) Q)
    → (o : Option A) → IfSome o P → IfSome (option_and_then f o) Q
on-then f P Q each None h = tt
on-then f P Q each (Some a) h = each a h

pub on-any : {A : Type 0} (o : Option A) → IfSome o (λ _. Unit {0})
on-any None = tt
on-any (Some a) = tt

pub on-choice : {A : Type 0} (b : Bool) (Q : A → Type 0) (x y : Option A) → IfSome x Q → IfSome y Q → IfSome (cond b x y) Q
on-choice true Q x y h k = h
on-choice false Q x y h k = k

-- the symbols
abbrev pub PlainKey : KeyArg → Type 0
PlainKey key = is_plain_key key ≡ true

abbrev pub PlainChars : List ℕ → Type 0
PlainChars text = is_field_text text ≡ true

pub chars-plain : (field : List ℕ) → IsText field → PlainChars (chars field)
chars-plain field h =
    and_from (all_scalars (chars field)) (is_plain_text (chars field)) (scalars-chars field h.1) (ap is_plain (encodes-chars field h.1) ∙ h.0)

behind-text : (b : ℕ) (bs : List ℕ) → b < 128 → IsText (b ∷ bs) → IsText bs
behind-text b bs small h = (
  (and_parts _ (is_plain bs) h.0).1,
  IsUtf8-drop (b ∷ bs) 1 h.1 (IsCharBoundary-after_ascii (b ∷ bs) 0 h.1 (omega arith) small),
)

pub prefix-text : (front field : List ℕ) → list_all (λ b. nat_lt b 128) front ≡ true → IsText field
    → IfSome (after_prefix front field) IsText
prefix-text [] field small h = h
prefix-text (p ∷ ps) [] small h = tt
prefix-text (p ∷ ps) (b ∷ bs) small h =
    let both = and_parts (nat_lt p 128) (list_all (λ c. nat_lt c 128) ps) small in
    elim (p == b) as (λ t. (p == b) ≡ t → IfSome (cond t (after_prefix ps bs) None) IsText) [
      | true ↦ λ e. let same : p ≡ b = eqb-true p b e in
          let less : p < 128 = ltb-true p 128 both.0 in
          prefix-text ps bs both.1 (behind-text b bs (omega arith) h)
      | false ↦ λ e. tt
    ] refl

plain-drop : (n : ℕ) (text : List ℕ) → is_plain text ≡ true → is_plain (drop n text) ≡ true
plain-drop zero text h = h
plain-drop (suc n) [] h = refl
plain-drop (suc n) (b ∷ bs) h = plain-drop n bs (and_parts _ (is_plain bs) h).1

plain-take : (n : ℕ) (text : List ℕ) → is_plain text ≡ true → is_plain (take n text) ≡ true
plain-take zero text h = refl
plain-take (suc n) [] h = refl
plain-take (suc n) (b ∷ bs) h =
    let both = and_parts _ (is_plain bs) h in
    and_from _ _ both.0 (plain-take n bs both.1)

-- what stands before and behind the first such sign of a text is a text
pub before-sign : (sign : ℕ) → sign < 128 → (text : List ℕ) → IsText text → IsText (before_first (λ b. b == sign) text)
before-sign sign small text h =
    elim (cases_lt (position_or_len (λ b. b == sign) text) (length text)) [
      | inl lt ↦
          let at = position_or_len (λ b. b == sign) text in
          let is : get_or text at 0 ≡ sign = eqb-true _ _ (passes_at_first (λ b. b == sign) text 0 lt) in (
            plain-take at text h.0,
            IsUtf8-take text at h.1 (IsCharBoundary-before_ascii text at lt (omega (arith, is))),
          )
      | inr ge ↦
          let all : before_first (λ b. b == sign) text ≡ text = take_all _ text (omega (arith, ge)) in
          rw all h
    ]

pub behind-sign : (sign : ℕ) → sign < 128 → (text : List ℕ) → IsText text → IsText (after_first (λ b. b == sign) text)
behind-sign sign small text h =
    elim (cases_lt (position_or_len (λ b. b == sign) text) (length text)) [
      | inl lt ↦
          let at = position_or_len (λ b. b == sign) text in
          let is : get_or text at 0 ≡ sign = eqb-true _ _ (passes_at_first (λ b. b == sign) text 0 lt) in (
            plain-drop (at + 1) text h.0,
            IsUtf8-drop text (at + 1) h.1 (IsCharBoundary-after_ascii text at h.1 lt (omega (arith, is))),
          )
      | inr ge ↦
          let none : after_first (λ b. b == sign) text ≡ [] = drop_of_length-le text (omega (arith, ge)) in
          rw none (refl, IsUtf8-nil)
    ]

numbered-plain : (field : List ℕ) → IsText field → IfSome (numbered_of field) PlainKey
numbered-plain field h =
    on-then (λ rest. option_map (λ number. Number number (chars (after_first is_colon rest))) (number_of u16_max (before_first is_colon rest)))
    IsText PlainKey
    (λ rest k. on-map (λ number. Number number (chars (after_first is_colon rest))) (λ _. Unit {0}) PlainKey
    (λ number _. chars-plain (after_first is_colon rest) (behind-sign 58 (lit< tt) rest k)) (number_of u16_max (before_first is_colon rest)) (on-any _))
    (after_prefix (codes "#") field) (prefix-text (codes "#") field refl h)

pub key-plain : (field : List ℕ) → IsText field → PlainKey (key_of field)
key-plain field h = go (numbered_of field) (numbered-plain field h)
  where
    go : (o : Option KeyArg) → IfSome o PlainKey → PlainKey (unwrap_or o (Text (chars field)))
    go None k = chars-plain field h
    go (Some key) k = k

-- what stands behind an ASCII character of a text is a text
behind-text-at : (place : ℕ) (text : List ℕ) → position is_colon text ≡ Some place → IsText text → IsText (drop (place + 1) text)
behind-text-at place text found h =
    let at = position-Some is_colon text place 0 found in
    let colon : get_or text place 0 ≡ 58 = eqb-true _ _ at.1 in (
      plain-drop (place + 1) text h.0,
      IsUtf8-drop text (place + 1) h.1 (IsCharBoundary-after_ascii text place h.1 at.0 (omega (arith, colon))),
    )

abbrev pub PlainWire : WireExpr → Type 0
PlainWire wire = PlainChars wire.suffix

scoped-plain : (mapping : Mapping) (rest : List ℕ) → IsText rest → IfSome (scoped_of mapping rest) PlainWire
scoped-plain mapping rest h = go (position is_colon rest) refl
  where
    go : (o : Option ℕ) → position is_colon rest ≡ o
        → IfSome (option_and_then (λ place. option_map (λ scope. record { scope = scope; suffix = chars (drop (place + 1) rest); mapping = mapping })
        (number_of u16_max (take place rest))) o) PlainWire
    go None found = tt
    go (Some place) found =
        on-map (λ scope. record { scope = scope; suffix = chars (drop (place + 1) rest); mapping = mapping }) (λ _. Unit {0}) PlainWire
        (λ scope _. chars-plain (drop (place + 1) rest) (behind-text-at place rest found h)) (number_of u16_max (take place rest)) (on-any _)

scoped-in-plain : (mapping : Mapping) (rest : Option (List ℕ)) (other : Option WireExpr) → IfSome rest IsText → IfSome other PlainWire → IfSome (scoped_in mapping rest other) PlainWire
scoped-in-plain mapping None other h k = k
scoped-in-plain mapping (Some rest) other h k = scoped-plain mapping rest h

pub wire-plain : (field : List ℕ) → IsText field → IfSome (wire_of field) PlainWire
wire-plain field h =
    scoped-in-plain Sender (after_prefix (codes "s") field) (scoped_in Receiver (after_prefix (codes "r") field) None) (prefix-text (codes "s") field refl h)
    (scoped-in-plain Receiver (after_prefix (codes "r") field) None (prefix-text (codes "r") field refl h) tt)
