-- What a name has once a text was changed.
use Rattle.std.proofs.Common.{◌≡◌, ℕ, ◌+◌, ◌<◌, ◌==◌, true, false, not, List, [], ◌∷◌, ◌++◌, length, filter, find, Some, None, is_some, bytes_eq, refl, ap, sym, ◌∙◌, length-append, arith}
use Rattle.std.specs.List.{list_all}
use Rattle.std.specs.Option.{option_map}
use Rattle.std.proofs.lemmas.Bool.{and_from, cond_both, ne_eqb, eqb-true}
use Rattle.std.proofs.lemmas.List.Elements.{filter-append}
use Rattle.std.proofs.lemmas.List.Folds.{list_all-append}
use Rattle.std.proofs.lemmas.Slice.Eq.{bytes_eq-Decides}
use Rattle.zs_wire.specs.Parameters.{pairs, has_name, value_of, contains_name, other_pairs, joined_text, text_with}
use Rattle.zs_wire.specs.Laws.{is_name, is_value, GivesInserted, InsertKeepsOther, RemovesAll, RemoveKeepsOther}
use Rattle.zs_wire.proofs.Found.{split, list_all-filter, filter-passes, find-none, find-filter, find-behind, find-before}
use Rattle.zs_wire.proofs.Pairs.{is_pair, leaves_piece, pairs-joined_text, pairs-are_pairs}

-- a pair leaves a piece where its name or its value has a byte
piece_some : (pair : List ℕ × List ℕ) → 0 < length pair.0 + length pair.1 → leaves_piece pair ≡ true
piece_some (name, value) some =
    split (length value == 0) (λ e.
    let none : length value ≡ 0 = eqb-true (length value) 0 e in
    let full : (length name == 0) ≡ false = ne_eqb _ _ (omega arith) in
    rw (e, full) refl) (λ e.
    let full : (length (name ++ (0x3d ∷ value)) == 0) ≡ false = ne_eqb _ _ (omega (arith, length-append name (0x3d ∷ value))) in
    rw (e, full) refl)

-- a pair with a name that has a byte
named-piece : (name : List ℕ) → 0 < length name → (pair : List ℕ × List ℕ) → has_name name pair ≡ true → leaves_piece pair ≡ true
named-piece name some pair h =
    let same : pair.0 ≡ name = (bytes_eq-Decides pair.0 name).0 h in
    piece_some pair (omega (arith, ap length same))

-- a pair with another name
named-other : (name other : List ℕ) → bytes_eq name other ≡ false → (pair : List ℕ × List ℕ) → has_name other pair ≡ true → not (has_name name pair) ≡ true
named-other name other differs pair h =
    split (has_name name pair) (λ e.
    let first : pair.0 ≡ name = (bytes_eq-Decides pair.0 name).0 e in
    let second : pair.0 ≡ other = (bytes_eq-Decides pair.0 other).0 h in
    cc ((bytes_eq-Decides name other).1 (sym first ∙ second))) (λ e. rw e refl)

module _ (name text : List ℕ) where
  others-pairs : list_all is_pair (other_pairs name text) ≡ true
  others-pairs = list_all-filter is_pair (λ pair. not (has_name name pair)) (pairs text) (pairs-are_pairs text)

  -- the other pairs have no pair of the name
  others-none : find (has_name name) (filter leaves_piece (other_pairs name text)) ≡ None
  others-none =
      find-none (has_name name) (filter leaves_piece (other_pairs name text)) (
      list_all-filter (λ pair. not (has_name name pair)) leaves_piece (other_pairs name text) (filter-passes (λ pair. not (has_name name pair)) (pairs text)))

  -- and those of each other name
  others-found : (other : List ℕ) → 0 < length other → bytes_eq name other ≡ false
      → find (has_name other) (filter leaves_piece (other_pairs name text)) ≡ find (has_name other) (pairs text)
  others-found other some differs =
      find-filter (has_name other) leaves_piece (named-piece other some) (other_pairs name text)
      ∙ find-filter (has_name other) (λ pair. not (has_name name pair)) (named-other name other differs) (pairs text)

  pub removed-all : RemovesAll name text
  removed-all =
      cond_both (contains_name name text) (joined_text (other_pairs name text)) text (λ left. contains_name name left ≡ false)
      (λ _. ap (λ list. is_some (option_map (λ pair. pair.1) (find (has_name name) list))) (pairs-joined_text (other_pairs name text) others-pairs)
      ∙ ap (λ found. is_some (option_map (λ (pair : List ℕ × List ℕ). pair.1) found)) others-none)
      (λ none. none)

  pub removed-others : (other : List ℕ) → RemoveKeepsOther name text other
  removed-others other some differs =
      cond_both (contains_name name text) (joined_text (other_pairs name text)) text (λ left. value_of other left ≡ value_of other text)
      (λ _. ap (λ list. option_map (λ pair. pair.1) (find (has_name other) list)) (pairs-joined_text (other_pairs name text) others-pairs)
      ∙ ap (option_map (λ (pair : List ℕ × List ℕ). pair.1)) (others-found other some differs))
      (λ _. refl)

module _ (name value text : List ℕ) (named : is_name name ≡ true) (valued : is_value value ≡ true) where
  with-pairs : list_all is_pair (other_pairs name text ++ (name, value) ∷ []) ≡ true
  with-pairs =
      rw (list_all-append is_pair (other_pairs name text) ((name, value) ∷ []))
      (and_from _ _ (others-pairs name text) (and_from _ _ (and_from _ _ named valued) refl))

  -- the pairs of the text with the new pair
  with-read : pairs (text_with name value text) ≡ filter leaves_piece (other_pairs name text) ++ filter leaves_piece ((name, value) ∷ [])
  with-read = pairs-joined_text (other_pairs name text ++ (name, value) ∷ []) with-pairs ∙ filter-append leaves_piece (other_pairs name text) ((name, value) ∷ [])

  with-given : 0 < length name + length value → value_of name (text_with name value text) ≡ Some value
  with-given some =
      let same : bytes_eq name name ≡ true = (bytes_eq-Decides name name).1 refl in
      let piece : leaves_piece (name, value) ≡ true = piece_some (name, value) some in
      let given : find (has_name name) (filter leaves_piece ((name, value) ∷ [])) ≡ Some (name, value) = rw (piece, same) refl in
      ap (λ list. option_map (λ pair. pair.1) (find (has_name name) list)) with-read
      ∙ ap (option_map (λ (pair : List ℕ × List ℕ). pair.1))
      (find-behind (has_name name) (filter leaves_piece (other_pairs name text)) (filter leaves_piece ((name, value) ∷ [])) (others-none name text) ∙ given)

  with-others : (other : List ℕ) → 0 < length other → bytes_eq name other ≡ false → value_of other (text_with name value text) ≡ value_of other text
  with-others other some differs =
      let apart : find (has_name other) (filter leaves_piece ((name, value) ∷ [])) ≡ None =
      split (leaves_piece (name, value)) (λ e. rw (e, differs) refl) (λ e. rw e refl) in
      ap (λ list. option_map (λ pair. pair.1) (find (has_name other) list)) with-read
      ∙ ap (option_map (λ (pair : List ℕ × List ℕ). pair.1))
      (find-before (has_name other) (filter leaves_piece (other_pairs name text)) (filter leaves_piece ((name, value) ∷ [])) apart
      ∙ others-found name text other some differs)

pub inserted-given : (name value text : List ℕ) → GivesInserted name value text
inserted-given name value text named valued some = with-given name value text named valued some

pub inserted-others : (name value text other : List ℕ) → InsertKeepsOther name value text other
inserted-others name value text other named valued some differs = with-others name value text named valued other some differs
