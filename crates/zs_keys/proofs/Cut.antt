-- How a text is cut into chunks at its first `/`.
use Rattle.std.proofs.Common.{◌≡◌, ℕ, ◌+◌, ◌<◌, ◌≤◌, ◌==◌, true, length, take, drop, get_or, List, [], ◌∷◌, refl, sym, arith, false}
use Rattle.std.specs.List.{position_or_len}
use Rattle.std.specs.Str.{IsCharBoundary, IsUtf8}
use Rattle.std.proofs.lemmas.Bool.Decides.{nat_tests}
use Rattle.std.proofs.lemmas.List.Sums.{fails_before_first, passes_at_first, position_or_len_is}
use Rattle.std.proofs.lemmas.List.Splits.{slice_split_first, slice_split_none}
use Rattle.std.proofs.lemmas.Str.{IsCharBoundary-before_ascii, IsCharBoundary-after_ascii}
use Rattle.zs_keys.specs.Text.{chunks}

module _ (text : List ℕ) (place : ℕ) (is : place ≡ position_or_len (λ byte. byte == 0x2f) text) (inside : place < length text) where
  at-slash : get_or text place 0 ≡ 0x2f
  at-slash =
      let within : position_or_len (λ byte. byte == 0x2f) text < length text = rw is at inside in
      let passes : (get_or text place 0 == 0x2f) ≡ true = rw is (passes_at_first (λ byte. byte == 0x2f) text 0 within) in
      grind (arith, nat_tests)

  -- a text may be cut before its first `/` and behind it
  pub boundary-before : IsCharBoundary text place
  boundary-before = IsCharBoundary-before_ascii text place inside (omega (arith, at-slash))

  pub boundary-behind : IsUtf8 text → IsCharBoundary text (place + 1)
  boundary-behind utf8 = IsCharBoundary-after_ascii text place utf8 inside (omega (arith, at-slash))

  -- the first chunk stands before it, and the others are those of the text behind it
  pub chunks_of_cut : chunks text ≡ take place text ∷ chunks (drop (place + 1) text)
  chunks_of_cut =
      let within : position_or_len (λ byte. byte == 0x2f) text < length text = rw is at inside in
      rw is (slice_split_first (λ byte. byte == 0x2f) text 0 within)

-- a text without `/` is one chunk
pub chunks_of_whole : (text : List ℕ) → length text ≤ position_or_len (λ byte. byte == 0x2f) text → chunks text ≡ text ∷ []
chunks_of_whole text none =
    slice_split_none (λ byte. byte == 0x2f) text (λ k d small. fails_before_first (λ byte. byte == 0x2f) text k d (omega arith))

-- the place of the first `/`, or the length where there is none
pub place-found : (text : List ℕ) (place : ℕ) → place < length text → ((k : ℕ) → k < place → (get_or text k 0 == 0x2f) ≡ false)
    → get_or text place 0 ≡ 0x2f → place ≡ position_or_len (λ byte. byte == 0x2f) text
place-found text place inside none found =
    sym (position_or_len_is (λ byte. byte == 0x2f) text place 0 (omega arith) none (λ _. rw found refl))

pub place-none : (text : List ℕ) → ((k : ℕ) → k < length text → (get_or text k 0 == 0x2f) ≡ false)
    → length text ≡ position_or_len (λ byte. byte == 0x2f) text
place-none text none =
    sym (position_or_len_is (λ byte. byte == 0x2f) text (length text) 0 (omega arith) none (λ inside. absurd (omega arith)))
