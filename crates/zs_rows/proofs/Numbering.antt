-- What an ordered set's calls make of the list of its numbers.
use Rattle.std.proofs.Common.{◌≡◌, ℕ, ◌<◌, Bool, true, false, cond, List, [], ◌∷◌, refl, sym, ◌∙◌, arith}
use Rattle.std.specs.Prelude.{◌==◌, ◌||◌, not, filter}
use Rattle.std.specs.List.{list_any, AllByRecursion}
use Rattle.std.specs.List.Sorted.{IsStrictlySortedBy}
use Rattle.std.specs.Ordering.{nat_cmp}
use Rattle.std.specs.BTreeMap.{is_at}
use Rattle.std.specs.Set.{remove_key}
use Rattle.std.specs.declared.cmp.Ordering.TheVariants.{Less}
use Rattle.std.proofs.lemmas.Bool.Decides.{nat_tests}
use Rattle.std.proofs.lemmas.Map.Keys.{sorted_head, sorted_tail}
use Rattle.zs_rows.specs.Ascending.{Ascend}
use Rattle.zs_rows.specs.Numbers.{is_in}
use Rattle.zs_rows.proofs.Finding.{equal_is, below_is}
use Rattle.zs_rows.proofs.Ascending.{all_weaker}

-- whether the set has a number
pub in_set : (n : ℕ) (numbers : List ℕ) → list_any (is_at (nat_cmp n)) numbers ≡ is_in n numbers
in_set n [] = refl
in_set n (m ∷ numbers) = rw (equal_is n m, in_set n numbers) refl

-- with one number more
pub joined : (number : ℕ) (before after : List ℕ) → ((q : ℕ) → list_any (is_at (nat_cmp q)) after ≡ cond (is_at (nat_cmp number) q) true (list_any (is_at (nat_cmp q)) before)) → (n : ℕ) → is_in n after ≡ ((n == number) || is_in n before)
joined number before after says n = sym (in_set n after) ∙ says n ∙ rw (equal_is number n, in_set n before) (go (n == number) refl)
  where
    go : (b : Bool) → (n == number) ≡ b → cond (n == number) true (is_in n before) ≡ ((n == number) || is_in n before)
    go true is = grind (arith, nat_tests, is)
    go false is = grind (arith, nat_tests, is)

-- the numbers of a set ascend
pub numbers_ascend : (numbers : List ℕ) → IsStrictlySortedBy nat_cmp numbers → Ascend (λ n. n) numbers
numbers_ascend [] sorted = tt
numbers_ascend (m ∷ numbers) sorted = (all_weaker (λ k. nat_cmp m k ≡ Less) (λ k. m < k) (λ k is. below_is m k is) numbers (sorted_head nat_cmp m numbers sorted), numbers_ascend numbers (sorted_tail nat_cmp m numbers sorted))

-- what a set takes out
none_out : (n : ℕ) (numbers : List ℕ) → AllByRecursion (λ k. n < k) numbers → filter (λ m. not (m == n)) numbers ≡ numbers
none_out n [] all = refl
none_out n (m ∷ numbers) all = grind (arith, nat_tests, all.0, none_out n numbers all.1)

pub taken : (n : ℕ) (numbers : List ℕ) → Ascend (λ m. m) numbers → remove_key (is_at (nat_cmp n)) numbers ≡ filter (λ m. not (m == n)) numbers
taken n [] up = refl
taken n (m ∷ numbers) up = rw (equal_is n m) (go (taken n numbers up.1) (m == n) refl)
  where
    go : remove_key (is_at (nat_cmp n)) numbers ≡ filter (λ k. not (k == n)) numbers → (b : Bool) → (m == n) ≡ b → cond (m == n) numbers (m ∷ remove_key (is_at (nat_cmp n)) numbers) ≡ filter (λ k. not (k == n)) (m ∷ numbers)
    go more true is = let rest = none_out n numbers (all_weaker (λ later. m < later) (λ later. n < later) (λ y above. grind (arith, nat_tests, is, above)) numbers up.0) in rw (is, rest) refl
    go more false is = rw (is, more) refl
