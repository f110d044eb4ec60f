-- Numbers and bytes that are printed in digits are read as they were.
use Rattle.std.proofs.Common.{ℕ, zero, suc, ◌≡◌, ◌+◌, ◌-◌, ◌*◌, ◌/◌, ◌%◌, ◌^◌, ◌<◌, ◌≤◌, ◌==◌, Bool, true, false, not, ◌&&◌, nat_lt, List, [], ◌∷◌, ◌++◌, length, flat_map, Some, option_map, refl, sym, ap, ◌∙◌, arith, cond, decimal, inl, inr, append_assoc}
use Rattle.std.specs.Prelude.{nat_le, slice_index}
use Rattle.std.specs.List.{list_all}
use Rattle.std.specs.Result.{result_ok}
use Rattle.std.proofs.lemmas.Bool.{and_parts, and_from, cases_lt, leb-true, le-leb, ltb-true, ne_eqb, not_from_false, not-true}
use Rattle.std.proofs.lemmas.Fmt.{decimal_by_steps}
use Rattle.std.proofs.lemmas.List.{append-nil, length-append}
use Rattle.std.proofs.lemmas.List.Folds.{list_all-append}
use Rattle.hex.specs.Hex.{IsBytes, encode_lower, encode_with, lower_digits, decode_of}
use Rattle.hex.proofs.HexLemmas.{decode_of-encode_lower}
use Rattle.zs_bytes.specs.Payload.{bytes_of, one_slice}
use Rattle.zs_parts.specs.Hexadecimal.{digit_of, hex_from, hex_of}
use Rattle.zs_parts.specs.Symbols.{is_digit, number_from, number_of, u64_max, payload_of}
use Rattle.zs_printing.specs.Words.{hex_digit, hex_digits, hex_text, byte_digits, bytes_text}
use Rattle.zs_printing.proofs.HexDigits.{digits-last, digits-more}
use Rattle.zs_event_lines.specs.Sayable.{hex_end, are_bytes, gathered}

-- what holds of all numbers below one more
below-step : (P : ℕ → Type 0) (n : ℕ) → P n → ((d : ℕ) → d < n → P d) → (d : ℕ) → d < suc n → P d
below-step P n here below d h =
    elim (cases_lt d n) [
      | inl lt ↦ below d lt
      | inr ge ↦
          let same : d ≡ n = omega (arith, ge, h) in
          rw same here
    ]

below-none : (P : ℕ → Type 0) (d : ℕ) → d < 0 → P d
below-none P d h = absurd (omega arith)

-- of all 16 digits
of-digits : (P : ℕ → Type 0) → P 0 → P 1 → P 2 → P 3 → P 4 → P 5 → P 6 → P 7 → P 8 → P 9 → P 10 → P 11 → P 12 → P 13 → P 14
    → P 15 → (d : ℕ) → d < 16 → P d
of-digits P a b c d e f g h i j k l m n o p =
    below-step P 15 p (below-step P 14 o (below-step P 13 n (below-step P 12 m (below-step P 11 l (below-step P 10 k
    (below-step P 9 j (below-step P 8 i (below-step P 7 h (below-step P 6 g (below-step P 5 f (below-step P 4 e
    (below-step P 3 d (below-step P 2 c (below-step P 1 b (below-step P 0 a (below-none P))))))))))))))))

-- without a sign
abbrev pub is_free : ℕ → List ℕ → Bool
is_free sign text = list_all (λ b. not (b == sign)) text

pub free-append : (sign : ℕ) (xs ys : List ℕ) → is_free sign xs ≡ true → is_free sign ys ≡ true → is_free sign (xs ++ ys) ≡ true
free-append sign xs ys h k = list_all-append (λ b. not (b == sign)) xs ys ∙ and_from _ _ h k

free-of : (b sign : ℕ) → b < sign → not (b == sign) ≡ true
free-of b sign h = not_from_false _ (ne_eqb b sign (λ e. omega (arith, h, e)))

-- decimal digits: they do not begin with a zero that could go, and no sign above them stands there
abbrev leads : List ℕ → Bool
leads [] = false
leads (b ∷ bs) = not (b == 48)

leads-append : (xs ys : List ℕ) → leads xs ≡ true → leads (xs ++ ys) ≡ true
leads-append [] ys h = cc
leads-append (b ∷ bs) ys h = h

leading-whole : (most : ℕ) (ds : List ℕ) → leads ds ≡ true → number_of most ds ≡ number_from most 0 ds
leading-whole most [] h = cc
leading-whole most (b ∷ []) h = refl
leading-whole most (b ∷ c ∷ bs) h = rw (not-true _ h) refl

abbrev IsWhole : ℕ → List ℕ → Type 0
IsWhole n ds = (1 ≤ n → leads ds ≡ true) × ((most : ℕ) → number_of most ds ≡ number_from most 0 ds)

whole-one : (n : ℕ) → n < 10 → IsWhole n ((48 + n) ∷ [])
whole-one n h = ((λ some. not_from_false _ (ne_eqb (48 + n) 48 (λ e. omega (arith, some, e)))), (λ most. refl))

whole-more : (n : ℕ) (ds : List ℕ) → 10 ≤ n → IsWhole (n / 10) ds → IsWhole n (ds ++ ((48 + n % 10) ∷ []))
whole-more n ds h before =
    let front : leads ds ≡ true = before.0 (omega (arith, h)) in
    let all : leads (ds ++ ((48 + n % 10) ∷ [])) ≡ true = leads-append ds ((48 + n % 10) ∷ []) front in
    ((λ some. all), (λ most. leading-whole most (ds ++ ((48 + n % 10) ∷ [])) all))

abbrev ReadsOn : ℕ → ℕ → List ℕ → Type 0
ReadsOn most n ds = nat_le n most ≡ true → (rest : List ℕ) → number_from most 0 (ds ++ rest) ≡ number_from most n rest

digit-is : (d : ℕ) → d < 10 → is_digit (48 + d) ≡ true
digit-is d h = and_from _ _ (le-leb 48 (48 + d) (omega arith)) (le-leb (48 + d) 57 (omega (arith, h)))

reads-digit : (most n d : ℕ) (rest : List ℕ) → d < 10 → nat_le n most ≡ true
    → number_from most n ((48 + d) ∷ rest) ≡ number_from most (10 * n + d) rest
reads-digit most n d rest h k =
    let digit : (is_digit (48 + d) && nat_le n most) ≡ true = and_from _ _ (digit-is d h) k in
    let value : 48 + d - 48 ≡ d = omega arith in
    rw (digit, value) refl

reads-one : (most n : ℕ) → n < 10 → ReadsOn most n ((48 + n) ∷ [])
reads-one most n h k rest =
    let value : 10 * 0 + n ≡ n = omega arith in
    reads-digit most 0 n rest h (le-leb 0 most (omega arith)) ∙ ap (λ m. number_from most m rest) value

reads-more : (most n : ℕ) (ds : List ℕ) → 10 ≤ n → ReadsOn most (n / 10) ds → ReadsOn most n (ds ++ ((48 + n % 10) ∷ []))
reads-more most n ds h before k rest =
    let small : n ≤ most = leb-true n most k in
    let less : nat_le (n / 10) most ≡ true = le-leb (n / 10) most (omega (arith, small)) in
    let value : 10 * (n / 10) + n % 10 ≡ n = omega arith in
    ap (number_from most 0) (append_assoc ds ((48 + n % 10) ∷ []) rest)
    ∙ before less ((48 + n % 10) ∷ rest)
    ∙ reads-digit most (n / 10) (n % 10) rest (omega arith) less
    ∙ ap (λ m. number_from most m rest) value

-- a number at most a greatest one
pub number-says : (most n : ℕ) → nat_le most u64_max ≡ true → nat_le n most ≡ true → number_of most (decimal n) ≡ Some n
number-says most n bound h =
    let small : n ≤ most = leb-true n most h in
    let wide : most ≤ u64_max = leb-true most u64_max bound in
    let fits : n < 2 ^ 64 = omega (arith, small, wide) in
    (decimal_by_steps IsWhole whole-one whole-more n fits).1 most
    ∙ ap (number_from most 0) (sym (append-nil (decimal n)))
    ∙ decimal_by_steps (ReadsOn most) (reads-one most) (reads-more most) n fits h []
    ∙ rw h refl

-- and no sign above the digits stands in it
pub decimal-free : (sign n : ℕ) → 57 < sign → nat_le n u64_max ≡ true → is_free sign (decimal n) ≡ true
decimal-free sign n high h =
    let small : n ≤ u64_max = leb-true n u64_max h in
    let fits : n < 2 ^ 64 = omega (arith, small) in
    decimal_by_steps (λ m ds. is_free sign ds ≡ true)
    (λ m less. and_from _ _ (free-of (48 + m) sign (omega (arith, high, less))) refl)
    (λ m ds more before. free-append sign ds ((48 + m % 10) ∷ []) before
    (and_from _ _ (free-of (48 + m % 10) sign (omega (arith, high))) refl))
    n fits

-- hexadecimal digits
abbrev HexDigitSays : ℕ → Type 0
HexDigitSays d = digit_of (hex_digit d) ≡ Some d

hex-digit-says : (d : ℕ) → d < 16 → HexDigitSays d
hex-digit-says = of-digits HexDigitSays refl refl refl refl refl refl refl refl refl refl refl refl refl refl refl refl

abbrev HexDigitFree : ℕ → Type 0
HexDigitFree d = not (hex_digit d == 58) ≡ true

hex-digit-free : (d : ℕ) → d < 16 → HexDigitFree d
hex-digit-free = of-digits HexDigitFree refl refl refl refl refl refl refl refl refl refl refl refl refl refl refl refl

abbrev HexDigitLeads : ℕ → Type 0
HexDigitLeads d = 1 ≤ d → not (hex_digit d == 48) ≡ true

hex-digit-leads : (d : ℕ) → d < 16 → HexDigitLeads d
hex-digit-leads =
    of-digits HexDigitLeads (λ h. absurd (omega (arith, h))) (λ h. refl) (λ h. refl) (λ h. refl) (λ h. refl) (λ h. refl)
    (λ h. refl) (λ h. refl) (λ h. refl) (λ h. refl) (λ h. refl) (λ h. refl) (λ h. refl) (λ h. refl) (λ h. refl) (λ h. refl)

abbrev hex_bound : ℕ → ℕ
hex_bound zero = 1
hex_bound (suc places) = 16 * hex_bound places

hex-reads-digit : (n d : ℕ) (rest : List ℕ) → d < 16 → hex_from n (hex_digit d ∷ rest) ≡ hex_from (16 * n + d) rest
hex-reads-digit n d rest h = rw (hex-digit-says d h) refl

-- the digits of a number from 16 on: those of its sixteenth, and one more
hex-more : (places n : ℕ) → 16 ≤ n → hex_digits (suc places) n ≡ hex_digits places (n / 16) ++ hex_digit (n % 16) ∷ []
hex-more places n h =
    let one_less : suc places - 1 ≡ places = omega arith in
    digits-more (suc places) n (omega arith) h ∙ ap (λ p. hex_digits p (n / 16) ++ hex_digit (n % 16) ∷ []) one_less

hex-reads : (places n : ℕ) → n < hex_bound places → (rest : List ℕ) → hex_from 0 (hex_digits places n ++ rest) ≡ hex_from n rest
unfolding hex_digits
hex-reads zero n h rest =
    let none : n ≡ 0 = omega (arith, h) in
    rw none refl
hex-reads (suc places) n h rest =
    elim (cases_lt n 16) [
      | inl lt ↦
          let value : 16 * 0 + n % 16 ≡ n = omega (arith, lt) in
          ap (λ ds. hex_from 0 (ds ++ rest)) (digits-last (suc places) n (omega arith) lt)
          ∙ hex-reads-digit 0 (n % 16) rest (omega arith)
          ∙ ap (λ m. hex_from m rest) value
      | inr ge ↦
          let value : 16 * (n / 16) + n % 16 ≡ n = omega arith in
          ap (λ ds. hex_from 0 (ds ++ rest)) (hex-more places n ge)
          ∙ ap (hex_from 0) (append_assoc (hex_digits places (n / 16)) (hex_digit (n % 16) ∷ []) rest)
          ∙ hex-reads places (n / 16) (omega (arith, h)) (hex_digit (n % 16) ∷ rest)
          ∙ hex-reads-digit (n / 16) (n % 16) rest (omega arith)
          ∙ ap (λ m. hex_from m rest) value
    ]

hex-length : (places n : ℕ) → length (hex_digits places n) ≤ places
unfolding hex_digits
hex-length zero n = omega arith
hex-length (suc places) n =
    elim (cases_lt n 16) [
      | inl lt ↦ rw (digits-last (suc places) n (omega arith) lt) (omega arith)
      | inr ge ↦
          let before = hex-length places (n / 16) in
          rw (hex-more places n ge)
          (omega (arith, before, length-append (hex_digits places (n / 16)) (hex_digit (n % 16) ∷ [])))
    ]

hex-leads : (places n : ℕ) → 1 ≤ n → n < hex_bound places → leads (hex_digits places n) ≡ true
hex-leads zero n some h = absurd (omega (arith, some, h))
hex-leads (suc places) n some h =
    elim (cases_lt n 16) [
      | inl lt ↦
          rw (digits-last (suc places) n (omega arith) lt)
          (hex-digit-leads (n % 16) (omega arith) (omega (arith, some, lt)))
      | inr ge ↦
          rw (hex-more places n ge)
          (leads-append (hex_digits places (n / 16)) (hex_digit (n % 16) ∷ [])
          (hex-leads places (n / 16) (omega (arith, ge)) (omega (arith, h))))
    ]

hex-whole : (ds : List ℕ) → leads ds ≡ true → length ds ≤ 32 → hex_of ds ≡ hex_from 0 ds
hex-whole [] h k = cc
hex-whole (b ∷ []) h k = refl
hex-whole (b ∷ c ∷ bs) h k = rw (not-true _ h, le-leb (length (b ∷ c ∷ bs)) 32 k) refl

hex-text-whole : (n : ℕ) → n < hex_bound 32 → hex_of (hex_text n) ≡ hex_from 0 (hex_text n)
hex-text-whole zero h = rw (digits-last 32 0 (omega arith) (omega arith)) refl
hex-text-whole (suc n) h =
    hex-whole (hex_text (suc n)) (hex-leads 32 (suc n) (omega arith) h) (hex-length 32 (suc n))

pub hex-says : (n : ℕ) → nat_lt n hex_end ≡ true → hex_of (hex_text n) ≡ Some n
hex-says n h =
    let bound : n < hex_bound 32 = ltb-true n hex_end h in
    hex-text-whole n bound ∙ ap (hex_from 0) (sym (append-nil (hex_text n))) ∙ hex-reads 32 n bound []

hex-digits-free : (places n : ℕ) → is_free 58 (hex_digits places n) ≡ true
unfolding hex_digits
hex-digits-free zero n = refl
hex-digits-free (suc places) n =
    free-append 58 (cond (nat_lt n 16) [] (hex_digits places (n / 16))) (hex_digit (n % 16) ∷ [])
    (elim (nat_lt n 16) as (λ t. is_free 58 (cond t [] (hex_digits places (n / 16))) ≡ true)
    [ true ↦ refl | false ↦ hex-digits-free places (n / 16) ])
    (and_from _ _ (hex-digit-free (n % 16) (omega arith)) refl)

pub hex-free : (n : ℕ) → is_free 58 (hex_text n) ≡ true
hex-free n = hex-digits-free 32 n

-- bytes
abbrev DigitAt : ℕ → Type 0
DigitAt d = slice_index lower_digits d ≡ hex_digit d

digit-at : (d : ℕ) → d < 16 → DigitAt d
digit-at = of-digits DigitAt refl refl refl refl refl refl refl refl refl refl refl refl refl refl refl refl

same-front : (x y : ℕ) (xs ys : List ℕ) → x ≡ y → xs ≡ ys → (x ∷ xs) ≡ (y ∷ ys)
same-front x y xs ys h k = rw (h, k) refl

byte-digits : (bytes : List ℕ) → list_all (λ b. nat_lt b 256) bytes ≡ true → encode_lower bytes ≡ flat_map byte_digits bytes
unfolding encode_with
byte-digits [] h = refl
byte-digits (b ∷ bs) h =
    let both = and_parts (nat_lt b 256) _ h in
    let small : b < 256 = ltb-true b 256 both.0 in
    same-front _ _ _ _ (digit-at (b / 16) (omega (arith, small)))
    (same-front _ _ _ _ (digit-at (b % 16) (omega arith)) (byte-digits bs both.1))

are-small : (bytes : List ℕ) → list_all (λ b. nat_lt b 256) bytes ≡ true → IsBytes bytes
are-small [] h i = omega arith
are-small (b ∷ bs) h zero = ltb-true b 256 (and_parts (nat_lt b 256) _ h).0
are-small (b ∷ bs) h (suc i) = are-small bs (and_parts (nat_lt b 256) _ h).1 i

pub payload-says : (bytes : List (List ℕ)) → are_bytes bytes ≡ true → payload_of (bytes_text bytes) ≡ Some (gathered bytes)
payload-says bytes h =
    ap (λ (ds : List ℕ). option_map one_slice (result_ok (decode_of ds))) (sym (byte-digits (bytes_of bytes) h))
    ∙ ap (λ r. option_map one_slice (result_ok r)) (decode_of-encode_lower (bytes_of bytes) (are-small (bytes_of bytes) h))
