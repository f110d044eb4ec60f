-- Rows that are found by their numbers, and pass a test.
use Rattle.std.proofs.Common.{◌≡◌, ℕ, ◌<◌, Bool, true, false, List, [], ◌∷◌, Option, Some, None, refl, ap, ◌∙◌, arith}
use Rattle.std.specs.Prelude.{◌==◌, ◌&&◌, map, filter}
use Rattle.std.specs.List.{AllByRecursion, find}
use Rattle.std.proofs.lemmas.Bool.Decides.{nat_tests}
use Rattle.zs_keys.specs.Matching.{intersects}
use Rattle.zs_keyed.specs.Ascending.{Ascend}
use Rattle.zs_keyed.specs.Keyed.{meeting, passes_by}
use Rattle.zs_keyed.proofs.Ascending.{by_test, all_weaker, all_both}

-- no row above a number is that of it
not_above : {R : Type 0} (number : R → ℕ) (test : R → Bool) (n : ℕ) (rows : List R) → AllByRecursion (λ later. n < number later) rows → passes_by number test rows n ≡ false
not_above number test n [] up = refl
not_above number test n (row ∷ rows) up = grind (arith, nat_tests, up.0, not_above number test n rows up.1)

-- by its number a row is found
pub passes_of_row : {R : Type 0} (number : R → ℕ) (test : R → Bool) (rows : List R) → Ascend number rows → AllByRecursion (λ row. passes_by number test rows (number row) ≡ test row) rows
passes_of_row number test [] up = tt
passes_of_row number test (row ∷ rows) up = (
  grind (arith, nat_tests, not_above number test (number row) rows up.0),
  all_both (λ later. number row < number later) (λ later. passes_by number test rows (number later) ≡ test later) (λ later. passes_by number test (row ∷ rows) (number later) ≡ test later) (λ later above is. grind (arith, nat_tests, above, is)) rows up.0 (passes_of_row number test rows up.1),
)

-- whether a row that was looked up passes a test
abbrev pub passed : {R : Type 0} → (R → Bool) → Option R → Bool
passed test None = false
passed test (Some row) = test row

-- by its number is by the row that is found
pub passes_found : {R : Type 0} (number : R → ℕ) (test : R → Bool) (n : ℕ) (rows : List R) → Ascend number rows → passed test (find (λ row. number row == n) rows) ≡ passes_by number test rows n
passes_found number test n [] up = refl
passes_found number test n (row ∷ rows) up = go (number row == n) refl
    (λ same. not_above number test n rows (all_weaker (λ later. number row < number later) (λ later. n < number later) (λ later above. grind (arith, nat_tests, same, above)) rows up.0)) (passes_found number test n rows up.1)
  where
    go : (b : Bool) → (number row == n) ≡ b → ((number row == n) ≡ true → passes_by number test rows n ≡ false) → passed test (find (λ row. number row == n) rows) ≡ passes_by number test rows n → passed test (find (λ row. number row == n) (row ∷ rows)) ≡ passes_by number test (row ∷ rows) n
    go true same rest ih = rw same (let r = rest same in grind (arith, nat_tests, r))
    go false same rest ih = rw same ih

-- of all that meet a text, those that pass a test
kept_of : {R : Type 0} (number : R → ℕ) (text : R → List ℕ) (test : R → Bool) (asked : List ℕ) (all rows : List R) → AllByRecursion (λ row. passes_by number test all (number row) ≡ test row) rows
    → filter (passes_by number test all) (meeting number text asked rows) ≡ map number (filter (λ row. test row && intersects asked (text row)) rows)
kept_of number text test asked all [] each = refl
kept_of number text test asked all (row ∷ rows) each =
    let ih = kept_of number text test asked all rows each.1 in
    let here : passes_by number test all (number row) ≡ test row = each.0 in
    by_test (intersects asked (text row))
    (λ k. by_test (test row)
    (λ t. rw (k, t, here, t) (ap (λ (rest : List ℕ). number row ∷ rest) ih))
    (λ t. rw (k, t, here, t) ih))
    (λ k. by_test (test row) (λ t. rw (k, t) ih) (λ t. rw (k, t) ih))

pub kept : {R : Type 0} (number : R → ℕ) (text : R → List ℕ) (test : R → Bool) (asked : List ℕ) (rows : List R) (found out : List ℕ) → Ascend number rows
    → found ≡ meeting number text asked rows → out ≡ filter (passes_by number test rows) found → out ≡ map number (filter (λ row. test row && intersects asked (text row)) rows)
kept number text test asked rows found out up p q = q ∙ ap (filter (passes_by number test rows)) p ∙ kept_of number text test asked rows rows (passes_of_row number test rows up)
