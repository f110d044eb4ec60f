-- What stands behind a number, and what a search for a place there finds.
use Rattle.std.proofs.Common.{◌≡◌, ℕ, ◌-◌, ◌<◌, ◌≤◌, true, false, List, [], ◌∷◌, length, take, drop, Some, None, refl, ap, ◌∙◌, arith}
use Rattle.std.specs.Prelude.{nat_le, filter}
use Rattle.std.specs.List.Sorted.{IsPartitionedBy, IsPartitionPoint}
use Rattle.std.proofs.lemmas.Bool.Decides.{nat_tests}
use Rattle.std.proofs.lemmas.List.{take_rest}
use Rattle.std.proofs.lemmas.List.Sorted.{IsPartitionedBy-leb}
pub use Rattle.zs_keyed.proofs.Searching.{searched, missing, find_none, any_none, filter_none, find_here, any_here, remove_here, set_here, insert_here}
use Rattle.zs_keyed.proofs.Searching.{drop_behind}
use Rattle.zs_subscriptions.specs.Ascending.{Ascend}
use Rattle.zs_subscriptions.specs.Recipients.{is_behind}
use Rattle.zs_subscriptions.proofs.Ascending.{ascend_rises}

-- all are behind where there was no last one
pub all_behind : {X : Type 0} (number : X → ℕ) (xs : List X) → xs ≡ filter (λ x. is_behind None (number x)) xs
all_behind number [] = refl
all_behind number (x ∷ xs) = ap (λ rest. x ∷ rest) (all_behind number xs)

-- what a partition point leaves is what is above a number
pub behind_point : {X : Type 0} (number : X → ℕ) (n : ℕ) (xs : List X) (at : ℕ) → Ascend number xs → at ≤ length xs → (IsPartitionedBy (λ x. nat_le (number x) n) xs → IsPartitionPoint (λ x. nat_le (number x) n ≡ true) (λ x. nat_le (number x) n ≡ false) xs at) → take (length xs - at) (drop at xs) ≡ filter (λ x. is_behind (Some n) (number x)) xs
behind_point number n xs at up le parts =
    let both = parts (IsPartitionedBy-leb number xs n (ascend_rises number xs up)) in
    take_rest xs at ∙ drop_behind number n xs at le (λ k d low lt. low_of _ (both.0 k d low lt)) (λ k d low lt. high_of _ (both.1 k d low lt))
  where
    low_of : (m : ℕ) → nat_le m n ≡ true → m ≤ n
    low_of m is = grind (arith, nat_tests, is)

    high_of : (m : ℕ) → nat_le m n ≡ false → n < m
    high_of m is = grind (arith, nat_tests, is)
