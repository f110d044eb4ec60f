-- How a text of parameters is cut at its first `;`.
use Rattle.std.proofs.Common.{◌≡◌, ℕ, ◌+◌, ◌≤◌, ◌==◌, Bool, not, List, [], ◌∷◌, length, take, map, filter, refl, ap, ◌∙◌, inl, inr, arith}
use Rattle.std.specs.List.{slice_split, before_first, after_first, position_or_len}
use Rattle.std.proofs.Math.Seq.{take-length}
use Rattle.std.proofs.lemmas.Bool.{cases_lt, ne_eqb}
use Rattle.std.proofs.lemmas.List.{drop_all}
use Rattle.std.proofs.lemmas.List.Sums.{fails_before_first, prefix_len-le-length}
use Rattle.std.proofs.lemmas.List.Splits.{slice_split_first, slice_split_none}
use Rattle.zs_wire.specs.Parameters.{pairs, pair_of}

abbrev pub is_semicolon : ℕ → Bool
is_semicolon byte = byte == 0x3b

abbrev pub is_some_piece : List ℕ → Bool
is_some_piece piece = not (length piece == 0)

-- where there is no `;` the text is its one piece
whole : (text front back : List ℕ) → slice_split is_semicolon text ≡ text ∷ [] → front ≡ text → back ≡ []
    → filter is_some_piece (slice_split is_semicolon text) ≡ filter is_some_piece (front ∷ slice_split is_semicolon back)
whole text front back one same none = rw (one, same, none) refl

front_whole : (text : List ℕ) → length text ≤ position_or_len is_semicolon text → before_first is_semicolon text ≡ text
front_whole text none =
    let all : position_or_len is_semicolon text ≡ length text = omega (arith, prefix_len-le-length (λ byte. not (is_semicolon byte)) text) in
    ap (λ n. take n text) all ∙ take-length text

-- the pieces of a text are its first one and those of the text behind the first `;`, but for what is empty
pieces-first : (text : List ℕ) → filter is_some_piece (slice_split is_semicolon text)
    ≡ filter is_some_piece (before_first is_semicolon text ∷ slice_split is_semicolon (after_first is_semicolon text))
pieces-first text =
    elim (cases_lt (position_or_len is_semicolon text) (length text)) [
      | inl inside ↦ ap (filter is_some_piece) (slice_split_first is_semicolon text 0 inside)
      | inr none ↦
          whole text _ _ (slice_split_none is_semicolon text (λ k d small. fails_before_first is_semicolon text k d (omega arith)))
          (front_whole text none) (drop_all (position_or_len is_semicolon text + 1) text (omega arith))
    ]

pieces-cut : (text piece behind : List ℕ) → piece ≡ before_first is_semicolon text → behind ≡ after_first is_semicolon text
    → filter is_some_piece (slice_split is_semicolon text) ≡ filter is_some_piece (piece ∷ slice_split is_semicolon behind)
pieces-cut text piece behind front back = rw (front, back) (pieces-first text)

-- an empty piece is skipped
pub pairs-skip : (text piece behind : List ℕ) → piece ≡ before_first (λ byte. byte == 0x3b) text → behind ≡ after_first (λ byte. byte == 0x3b) text
    → length piece ≡ 0 → pairs text ≡ pairs behind
pairs-skip text piece behind front back none = ap (map pair_of) (pieces-cut text piece behind front back ∙ rw none refl)

-- any other one is the first pair
pub pairs-take : (text piece behind : List ℕ) → piece ≡ before_first (λ byte. byte == 0x3b) text → behind ≡ after_first (λ byte. byte == 0x3b) text
    → (length piece ≡ 0 → ⊥) → pairs text ≡ pair_of piece ∷ pairs behind
pairs-take text piece behind front back some =
    let full = ne_eqb (length piece) 0 some in
    let kept : filter is_some_piece (piece ∷ slice_split is_semicolon behind) ≡ piece ∷ filter is_some_piece (slice_split is_semicolon behind) =
    rw full refl in
    ap (map pair_of) (pieces-cut text piece behind front back ∙ kept)

pub ruleset cutting = (pairs-skip, pairs-take)
