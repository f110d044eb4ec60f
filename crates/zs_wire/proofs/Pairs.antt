-- Pairs are read back from a text as they were written.
use Rattle.std.proofs.Common.{◌≡◌, ℕ, ◌+◌, ◌==◌, Bool, true, false, not, ◌&&◌, List, [], ◌∷◌, ◌++◌, length, map, filter, cond, refl, ap, ◌∙◌, length-append, arith}
use Rattle.std.specs.List.{slice_split, onto_first, position_or_len, join_with_byte, list_all, All, take_while}
use Rattle.std.proofs.Math.Seq.{take-length, take-append_seam, drop-append-add, get_or-append_seam}
use Rattle.std.proofs.lemmas.Bool.{and_parts, and_from, not-true, ne_eqb}
use Rattle.std.proofs.lemmas.List.{drop_all, get_or_append_left}
use Rattle.std.proofs.lemmas.List.Folds.{list_all-append}
use Rattle.std.proofs.lemmas.List.Sums.{AllPass-from_list_all, position_or_len_is, take_while-cons}
use Rattle.std.proofs.lemmas.List.Splits.{slice_split_none, slice_split_at}
use Rattle.zs_wire.specs.Parameters.{pairs, pair_of, pieces, piece_of, joined_text}
use Rattle.zs_wire.specs.Laws.{is_name, is_value}
use Rattle.zs_wire.proofs.Cutting.{is_semicolon, is_some_piece}
use Rattle.zs_wire.proofs.Found.{split, list_all-filter, list_all-drop}

abbrev is_equals : ℕ → Bool
is_equals byte = byte == 0x3d

-- a pair that can be read back, and one that leaves a piece
abbrev pub is_pair : List ℕ × List ℕ → Bool
is_pair pair = is_name pair.0 && is_value pair.1

abbrev pub leaves_piece : List ℕ × List ℕ → Bool
leaves_piece pair = is_some_piece (piece_of pair)

-- ---- no byte of a text passes a test
none-passes : (p : ℕ → Bool) (text : List ℕ) → list_all (λ byte. not (p byte)) text ≡ true → All (λ byte. p byte ≡ false) text
none-passes p text h k d within = not-true _ (AllPass-from_list_all (λ byte. not (p byte)) text h k d within)

name-value : (text : List ℕ) → is_name text ≡ true → is_value text ≡ true
name-value [] h = refl
name-value (x ∷ text) h =
    let (here, rest) = and_parts (not (is_semicolon x) && not (is_equals x)) (is_name text) h in
    and_from _ _ (and_parts (not (is_semicolon x)) (not (is_equals x)) here).0 (name-value text rest)

name-plain : (text : List ℕ) → is_name text ≡ true → list_all (λ byte. not (is_equals byte)) text ≡ true
name-plain [] h = refl
name-plain (x ∷ text) h =
    let (here, rest) = and_parts (not (is_semicolon x) && not (is_equals x)) (is_name text) h in
    and_from _ _ (and_parts (not (is_semicolon x)) (not (is_equals x)) here).1 (name-plain text rest)

-- ---- a pair is read back from its piece
module _ (name : List ℕ) (is : is_name name ≡ true) where
  no_equals : All (λ byte. is_equals byte ≡ false) name
  no_equals = none-passes is_equals name (name-plain name is)

  name_alone : pair_of name ≡ (name, [])
  name_alone =
      let all : position_or_len is_equals name ≡ length name =
      position_or_len_is is_equals name (length name) 0 (omega arith) (λ k small. no_equals k 0 small) (λ over. absurd (omega arith)) in
      rw (all, take-length name, drop_all (length name + 1) name (omega arith)) refl

  name_first : (value : List ℕ) → pair_of (name ++ (0x3d ∷ value)) ≡ (name, value)
  name_first value =
      let whole = name ++ (0x3d ∷ value) in
      let at_name : position_or_len is_equals whole ≡ length name =
      position_or_len_is is_equals whole (length name) 0 (omega (arith, length-append name (0x3d ∷ value)))
      (λ k small. rw (get_or_append_left name (0x3d ∷ value) 0 k small) (no_equals k 0 small))
      (λ _. rw (get_or-append_seam name 0x3d value 0) refl) in
      rw (at_name, take-append_seam name (0x3d ∷ value), drop-append-add name (0x3d ∷ value) 1) refl

pub pair_of-piece_of : (pair : List ℕ × List ℕ) → is_pair pair ≡ true → pair_of (piece_of pair) ≡ pair
pair_of-piece_of (name, []) h = name_alone name (and_parts _ _ h).0
pair_of-piece_of (name, x ∷ value) h =
    let some : (length (x ∷ value) == 0) ≡ false = ne_eqb _ _ (omega arith) in
    rw some (name_first name (and_parts _ _ h).0 (x ∷ value))

piece_of-value : (pair : List ℕ × List ℕ) → is_pair pair ≡ true → is_value (piece_of pair) ≡ true
piece_of-value (name, []) h = name-value name (and_parts _ _ h).0
piece_of-value (name, x ∷ value) h =
    let some : (length (x ∷ value) == 0) ≡ false = ne_eqb _ _ (omega arith) in
    rw (some, list_all-append (λ byte. not (is_semicolon byte)) name (0x3d ∷ x ∷ value))
    (and_from _ _ (name-value name (and_parts _ _ h).0) (and_parts (is_name name) (is_value (x ∷ value)) h).1)

-- ---- pieces are read back from their text
split-joined : (x : List ℕ) (xs : List (List ℕ)) → list_all is_value (x ∷ xs) ≡ true → slice_split is_semicolon (join_with_byte 0x3b (x ∷ xs)) ≡ x ∷ xs
split-joined x [] h = slice_split_none is_semicolon x (none-passes is_semicolon x (and_parts (is_value x) true h).0)
split-joined x (y ∷ xs) h =
    let (here, rest) = and_parts (is_value x) (list_all is_value (y ∷ xs)) h in
    slice_split_at is_semicolon x 0x3b (join_with_byte 0x3b (y ∷ xs)) (none-passes is_semicolon x here) refl ∙ ap (λ parts. x ∷ parts) (split-joined y xs rest)

pieces-values : (list : List (List ℕ × List ℕ)) → list_all is_pair list ≡ true → list_all is_value (map piece_of list) ≡ true
pieces-values [] h = refl
pieces-values (x ∷ list) h =
    let (here, rest) = and_parts (is_pair x) (list_all is_pair list) h in
    and_from _ _ (piece_of-value x here) (pieces-values list rest)

one-read : (piece : List ℕ) (pair : List ℕ × List ℕ) (parts : List (List ℕ)) (list : List (List ℕ × List ℕ)) → pair_of piece ≡ pair
    → map pair_of (filter is_some_piece parts) ≡ list
    → map pair_of (filter is_some_piece (piece ∷ parts)) ≡ cond (is_some_piece piece) (pair ∷ list) list
one-read piece pair parts list same others =
    split (is_some_piece piece) (λ e. rw (e, same, others) refl) (λ e. rw (e, others) refl)

all-read : (list : List (List ℕ × List ℕ)) → list_all is_pair list ≡ true
    → map pair_of (filter is_some_piece (map piece_of list)) ≡ filter leaves_piece list
all-read [] h = refl
all-read (x ∷ list) h =
    let (here, rest) = and_parts (is_pair x) (list_all is_pair list) h in
    one-read (piece_of x) x (map piece_of list) (filter leaves_piece list) (pair_of-piece_of x here) (all-read list rest)

-- the pairs of a text that was joined are those that were joined, but for those that leave no piece
pub pairs-joined_text : (list : List (List ℕ × List ℕ)) → list_all is_pair list ≡ true → pairs (joined_text list) ≡ filter leaves_piece list
pairs-joined_text [] h = refl
pairs-joined_text (x ∷ list) h =
    ap (λ parts. map pair_of (filter is_some_piece parts)) (split-joined (piece_of x) (map piece_of list) (pieces-values (x ∷ list) h))
    ∙ all-read (x ∷ list) h

-- ---- each pair of a text can be read back
onto-values : (x : ℕ) (parts : List (List ℕ)) → is_semicolon x ≡ false → list_all is_value parts ≡ true → list_all is_value (onto_first x parts) ≡ true
onto-values x [] plain h = rw plain refl
onto-values x (part ∷ parts) plain h = rw plain h

split-values : (text : List ℕ) → list_all is_value (slice_split is_semicolon text) ≡ true
split-values [] = refl
split-values (x ∷ text) =
    split (is_semicolon x) (λ e. rw e (split-values text)) (λ e. rw e (onto-values x (slice_split is_semicolon text) e (split-values text)))

before-name : (piece : List ℕ) → is_value piece ≡ true → is_name (take_while (λ byte. not (is_equals byte)) piece) ≡ true
before-name [] h = refl
before-name (x ∷ piece) h =
    let (here, rest) = and_parts (not (is_semicolon x)) (is_value piece) h in
    rw (take_while-cons (λ byte. not (is_equals byte)) x piece) (
    split (not (is_equals x)) (λ e. rw e (and_from _ _ (and_from _ _ here e) (before-name piece rest))) (λ e. rw e refl))

pair_of-is_pair : (piece : List ℕ) → is_value piece ≡ true → is_pair (pair_of piece) ≡ true
pair_of-is_pair piece h =
    and_from _ _ (before-name piece h) (list_all-drop (λ byte. not (is_semicolon byte)) (position_or_len is_equals piece + 1) piece h)

map-pairs : (parts : List (List ℕ)) → list_all is_value parts ≡ true → list_all is_pair (map pair_of parts) ≡ true
map-pairs [] h = refl
map-pairs (x ∷ parts) h =
    let (here, rest) = and_parts (is_value x) (list_all is_value parts) h in
    and_from _ _ (pair_of-is_pair x here) (map-pairs parts rest)

pub pairs-are_pairs : (text : List ℕ) → list_all is_pair (pairs text) ≡ true
pairs-are_pairs text = map-pairs (pieces text) (list_all-filter is_value is_some_piece (slice_split is_semicolon text) (split-values text))
