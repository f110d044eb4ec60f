-- A tree has the keys of rows.
use Rattle.std.proofs.Common.{◌≡◌, ◌≢◌, ℕ, ◌<◌, Bool, true, false, List, [], ◌∷◌, ◌++◌, Option, Some, None, refl, sym, ap, ◌∙◌, arith}
use Rattle.std.specs.Prelude.{◌==◌, ◌&&◌, nat_lt, not, map, filter, All, bytes_eq}
use Rattle.std.specs.List.{AllByRecursion, find}
use Rattle.std.specs.Cmp.Lexicographic.{nat_list_eq_equiv}
use Rattle.std.proofs.lemmas.Bool.Decides.{nat_tests}
use Rattle.std.proofs.lemmas.List.Elements.{All-from_recursion}
use Rattle.zs_keys.specs.Matching.{intersects}
use Rattle.zs_tree.specs.Rows.{Row, is_row, first_above, placed as tree_placed, matches as tree_matches}
use Rattle.zs_keyed.specs.Ascending.{Ascend, placed_by}
use Rattle.zs_keyed.specs.Keyed.{keyed_by, meeting}
use Rattle.zs_keyed.proofs.Ascending.{by_test, all_weaker}

-- what matches in the tree is what matches
pub matches_keyed : {R : Type 0} (number : R → ℕ) (text : R → List ℕ) (asked : List ℕ) (rows : List R) → tree_matches asked (map (keyed_by number text) rows) ≡ meeting number text asked rows
matches_keyed number text asked [] = refl
matches_keyed number text asked (row ∷ rows) =
    let ih = matches_keyed number text asked rows in
    by_test (intersects asked (text row)) (λ k. rw k (ap (λ (rest : List ℕ). number row ∷ rest) ih)) (λ k. rw k ih)

pub tree_matches_is : {R : Type 0} (number : R → ℕ) (text : R → List ℕ) (asked : List ℕ) (rows : List R) (tree : List Row) → tree ≡ map (keyed_by number text) rows → tree_matches asked tree ≡ meeting number text asked rows
tree_matches_is number text asked rows tree is = ap (tree_matches asked) is ∙ matches_keyed number text asked rows

new_keyed : {R : Type 0} (number : R → ℕ) (text : R → List ℕ) (id : ℕ) (rows : List R) → AllByRecursion (λ row. number row ≢ id) rows → AllByRecursion (λ (row : Row). row.id ≢ id) (map (keyed_by number text) rows)
new_keyed number text id [] h = tt
new_keyed number text id (row ∷ rows) h = (h.0, new_keyed number text id rows h.1)

-- a number that no row has is not in the tree
pub none_in_tree : {R : Type 0} (number : R → ℕ) (text : R → List ℕ) (id : ℕ) (rows : List R) (tree : List Row) → tree ≡ map (keyed_by number text) rows → AllByRecursion (λ row. number row ≢ id) rows
    → All (λ (row : Row). row.id ≢ id) tree
none_in_tree number text id rows tree is h =
    rw is (All-from_recursion (λ (row : Row). row.id ≢ id) (map (keyed_by number text) rows) (new_keyed number text id rows h))

pub placed_keyed : {R : Type 0} (number : R → ℕ) (text : R → List ℕ) (row : R) (rows : List R) → AllByRecursion (λ other. number other ≢ number row) rows
    → tree_placed (keyed_by number text row) (map (keyed_by number text) rows) ≡ map (keyed_by number text) (placed_by number row rows)
placed_keyed number text row [] h = refl
placed_keyed number text row (other ∷ rows) h =
    let apart : (number other == number row) ≡ false = grind (arith, nat_tests, h.0) in
    by_test (nat_lt (number row) (number other)) (λ k. rw (apart, k) refl)
    (λ k. rw (apart, k) (ap (λ (rest : List Row). keyed_by number text other ∷ rest) (placed_keyed number text row rows h.1)))

-- with a row where it belongs
pub tree_put : {R : Type 0} (number : R → ℕ) (text : R → List ℕ) (row : R) (rows rows' : List R) (tree tree' : List Row) → tree ≡ map (keyed_by number text) rows
    → AllByRecursion (λ other. number other ≢ number row) rows → tree' ≡ tree_placed (keyed_by number text row) tree → rows' ≡ placed_by number row rows → tree' ≡ map (keyed_by number text) rows'
tree_put number text row rows rows' tree tree' is h p q = p ∙ rw (is, q) (placed_keyed number text row rows h)

-- a row with a number has the text that goes with it
abbrev HasText : {R : Type 0} → (R → ℕ) → (R → List ℕ) → ℕ → List ℕ → R → Type 0
HasText number text id its row = number row ≡ id → text row ≡ its

one_text : {R : Type 0} (number : R → ℕ) (text : R → List ℕ) (id : ℕ) (its : List ℕ) (rows : List R) → AllByRecursion (HasText number text id its) rows
    → filter (λ row. not (is_row id its row)) (map (keyed_by number text) rows) ≡ map (keyed_by number text) (filter (λ row. not (number row == id)) rows)
one_text number text id its [] h = refl
one_text number text id its (row ∷ rows) h =
    let ih = one_text number text id its rows h.1 in
    by_test (number row == id)
    (λ k.
    let same : number row ≡ id = grind (arith, nat_tests, k) in
    let text_is : bytes_eq (text row) its ≡ true = rw (h.0 same) (nat_list_eq_equiv.refl its) in
    rw (k, text_is) ih)
    (λ k. rw k (ap (λ (rest : List Row). keyed_by number text row ∷ rest) ih))

later_text : {R : Type 0} (number : R → ℕ) (text : R → List ℕ) (id : ℕ) (its : List ℕ) (rows : List R) → AllByRecursion (λ later. id < number later) rows → AllByRecursion (HasText number text id its) rows
later_text number text id its [] h = tt
later_text number text id its (row ∷ rows) h = ((λ same. absurd (omega (arith, same, h.0))), later_text number text id its rows h.1)

text_found : {R : Type 0} (number : R → ℕ) (text : R → List ℕ) (id : ℕ) (its : R) (rows : List R) → Ascend number rows → Some its ≡ find (λ row. number row == id) rows → AllByRecursion (HasText number text id (text its)) rows
text_found number text id its [] up found = tt
text_found {R} number text id its (row ∷ rows) up found = go (number row == id) refl (text_found number text id its rows up.1)
  where
    go : (b : Bool) → (number row == id) ≡ b → (Some its ≡ find (λ row. number row == id) rows → AllByRecursion (HasText number text id (text its)) rows) → AllByRecursion (HasText number text id (text its)) (row ∷ rows)
    go true here more =
        let here_is : number row ≡ id = grind (arith, nat_tests, here) in
        let there : Some its ≡ Some row = rw here at found in
        let same : row ≡ its = cc in
        ((λ again. ap text same), later_text number text id (text its) rows (rw here_is at up.0))
    go false apart more = ((λ same. absurd (grind (arith, nat_tests, same, apart))), more (rw apart at found))

-- without the row of a number
pub tree_without : {R : Type 0} (number : R → ℕ) (text : R → List ℕ) (id : ℕ) (row : R) (rows rows' : List R) (tree tree' : List Row) → tree ≡ map (keyed_by number text) rows → Ascend number rows
    → Some row ≡ find (λ r. number r == id) rows
    → tree' ≡ filter (λ r. not (is_row id (text row) r)) tree → rows' ≡ filter (λ r. not (number r == id)) rows → tree' ≡ map (keyed_by number text) rows'
tree_without number text id row rows rows' tree tree' is up found p q =
    p ∙ rw (is, q) (one_text number text id (text row) rows (text_found number text id row rows up found))
