-- Two ascending lists in one.
use Rattle.std.proofs.Common.{◌≡◌, ℕ, ◌<◌, Bool, true, false, List, [], ◌∷◌, refl, sym, ap, ◌∙◌, arith}
use Rattle.std.specs.Prelude.{◌||◌, nat_lt, map, filter}
use Rattle.std.specs.List.{AllByRecursion}
use Rattle.std.proofs.lemmas.Bool.Decides.{nat_tests}
use Rattle.zs_subscriptions.specs.Ascending.{Ascend}
use Rattle.zs_tables.specs.Listeners.{merged}
use Rattle.zs_subscriptions.proofs.Ascending.{all_map, all_filter}
use Rattle.zs_subscriptions.proofs.ByKey.{by_test}

merged_left : (x : ℕ) (left right : List ℕ) → AllByRecursion (λ y. x < y) right → merged (x ∷ left) right ≡ x ∷ merged left right
merged_left x left [] all = refl
merged_left x left (y ∷ right) all =
    let less : nat_lt x y ≡ true = grind (arith, nat_tests, all.0) in
    rw less refl

merged_right : (y : ℕ) (left right : List ℕ) → AllByRecursion (λ x. y < x) left → merged left (y ∷ right) ≡ y ∷ merged left right
merged_right y [] right all = refl
merged_right y (x ∷ left) right all =
    let more : nat_lt x y ≡ false = grind (arith, nat_tests, all.0) in
    let less : nat_lt y x ≡ true = grind (arith, nat_tests, all.0) in
    rw (more, less) refl

merged_same : (x : ℕ) (left right : List ℕ) → merged (x ∷ left) (x ∷ right) ≡ x ∷ merged left right
merged_same x left right =
    let not_less : nat_lt x x ≡ false = grind (arith, nat_tests) in
    rw not_less refl

-- of the elements that pass one test and of those that pass another are those that pass either
pub merged_tests : {R : Type 0} (number : R → ℕ) (p q : R → Bool) (rows : List R) → Ascend number rows
    → merged (map number (filter p rows)) (map number (filter q rows)) ≡ map number (filter (λ row. p row || q row) rows)
merged_tests number p q [] up = refl
merged_tests {R} number p q (row ∷ rows) up =
    let ih = merged_tests number p q rows up.1 in
    by_test (p row)
    (λ a. by_test (q row)
    (λ b. rw (a, b) (merged_same (number row) (map number (filter p rows)) (map number (filter q rows)) ∙ ap (λ (rest : List ℕ). number row ∷ rest) ih))
    (λ b. rw (a, b) (merged_left (number row) (map number (filter p rows)) (map number (filter q rows)) (above q) ∙ ap (λ (rest : List ℕ). number row ∷ rest) ih)))
    (λ a. by_test (q row)
    (λ b. rw (a, b) (merged_right (number row) (map number (filter p rows)) (map number (filter q rows)) (above p) ∙ ap (λ (rest : List ℕ). number row ∷ rest) ih))
    (λ b. rw (a, b) ih))
  where
    above : (test : R → Bool) → AllByRecursion (λ n. number row < n) (map number (filter test rows))
    above test = all_map (λ later. number row < number later) (λ n. number row < n) number (λ later more. more) (filter test rows) (all_filter (λ later. number row < number later) test rows up.0)
