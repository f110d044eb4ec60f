-- What stands at a place that a search found, and what an edit there makes of the list.
use Rattle.std.proofs.Common.{◌≡◌, ℕ, zero, suc, ◌-◌, ◌<◌, ◌≤◌, ◌≢◌, true, false, List, [], ◌∷◌, length, get_or, set, take, drop, Some, None, Result, Ok, Err, inl, inr, refl, sym, ap, ◌∙◌, arith}
use Rattle.std.specs.Prelude.{◌==◌, nat_lt, nat_le, not, filter}
use Rattle.std.specs.List.{AllByRecursion, AllWithin, HoldsAt, find, list_any, insert, remove}
use Rattle.std.specs.List.Sorted.{IsSearchInRange, IsBinarySearchResult, IsPartitionedBy, IsPartitionPoint}
use Rattle.std.specs.Ordering.{nat_cmp, ordering_index}
use Rattle.std.proofs.lemmas.Bool.{cases_lt}
use Rattle.std.proofs.lemmas.Bool.Decides.{nat_tests}
use Rattle.std.proofs.lemmas.Cmp.{ranked}
use Rattle.std.proofs.lemmas.List.Elements.{All-from_recursion, recursion_from_All}
use Rattle.std.proofs.lemmas.List.{take_rest}
use Rattle.std.proofs.lemmas.List.Sorted.{IsPartitionedBy-leb}
use Rattle.zs_keyed.specs.Ascending.{Ascend, IsPlaceOf, placed_by}
use Rattle.zs_rows.proofs.Ascending.{ascend_rises, all_weaker}
pub use Rattle.zs_keyed.proofs.Ascending.{any_none}

-- a binary search ends at the number, or at the place for it
pub searched : {X : Type 0} (number : X → ℕ) (n : ℕ) (xs : List X) → Ascend number xs → (r : Result ℕ ℕ) → IsSearchInRange r (length xs) → IsBinarySearchResult (λ x. nat_cmp (number x) n) xs r → IsPlaceOf number n xs r
searched number n xs up (Ok at) in_range equal = (in_range, λ d. ranked _ n _ (sym (equal d)))
searched {X} number n xs up (Err at) in_range parted =
    let both = parted (λ i j d le lt. rising i j d (ascend_rises number xs up i j d le lt)) in
    (in_range, λ k d low lt. ranked _ n _ (sym (both.0 k d low lt)), λ k d low lt. ranked _ n _ (sym (both.1 k d low lt)))
  where
    rising : (i j : ℕ) (d : X) → number (get_or xs i d) ≤ number (get_or xs j d) → ordering_index (nat_cmp (number (get_or xs i d)) n) ≤ ordering_index (nat_cmp (number (get_or xs j d)) n)
    rising i j d le = grind (arith, nat_tests, le)

-- where a number has a place of its own, no element has it
pub missing : {X : Type 0} (number : X → ℕ) (n : ℕ) (xs : List X) (at : ℕ) → IsPlaceOf number n xs (Err at) → AllByRecursion (λ x. number x ≢ n) xs
missing number n xs at place = recursion_from_All _ xs (λ k d lt same. elim (cases_lt k at) [
  | inl below ↦ omega (arith, place.1 k d (omega arith) below, same)
  | inr above ↦ omega (arith, place.2 k d above lt, same)
])

-- it is not found
pub find_none : {X : Type 0} (number : X → ℕ) (n : ℕ) (xs : List X) → AllByRecursion (λ x. number x ≢ n) xs → find (λ x. number x == n) xs ≡ None
find_none number n [] all = refl
find_none number n (x ∷ xs) all = grind (arith, nat_tests, all.0, find_none number n xs all.1)

-- leaving it out leaves all
pub filter_none : {X : Type 0} (number : X → ℕ) (n : ℕ) (xs : List X) → AllByRecursion (λ x. number x ≢ n) xs → filter (λ x. not (number x == n)) xs ≡ xs
filter_none number n [] all = refl
filter_none number n (x ∷ xs) all = grind (arith, nat_tests, all.0, filter_none number n xs all.1)

-- the element at its place is found
pub find_here : {X : Type 0} (number : X → ℕ) (n : ℕ) (d : X) (xs : List X) (at : ℕ) → Ascend number xs → at < length xs → number (get_or xs at d) ≡ n → find (λ x. number x == n) xs ≡ Some (get_or xs at d)
find_here number n d [] at up lt here = absurd (omega arith)
find_here number n d (x ∷ xs) zero up lt here = grind (arith, nat_tests, here)
find_here number n d (x ∷ xs) (suc at) up lt here =
    let below : number x < number (get_or xs at d) = All-from_recursion (λ later. number x < number later) xs up.0 at d (omega arith) in
    grind (arith, nat_tests, below, here, find_here number n d xs at up.1 (omega arith) here)

-- an element passes as having it
pub any_here : {X : Type 0} (number : X → ℕ) (n : ℕ) (xs : List X) (at : ℕ) → at < length xs → HoldsAt (λ x. number x ≡ n) xs at → list_any (λ x. number x == n) xs ≡ true
any_here number n [] at lt here = absurd (omega arith)
any_here number n (x ∷ xs) zero lt here = grind (arith, nat_tests, here x)
any_here number n (x ∷ xs) (suc at) lt here = grind (arith, nat_tests, any_here number n xs at (omega arith) here)

-- taking it out at its place is leaving it out
pub remove_here : {X : Type 0} (number : X → ℕ) (n : ℕ) (xs : List X) (at : ℕ) → Ascend number xs → at < length xs → HoldsAt (λ x. number x ≡ n) xs at → remove xs at ≡ filter (λ x. not (number x == n)) xs
remove_here number n [] at up lt here = absurd (omega arith)
remove_here number n (x ∷ xs) zero up lt here =
    let rest = filter_none number n xs (all_weaker (λ later. number x < number later) (λ later. number later ≢ n) (λ y more same. omega (arith, more, same, here x)) xs up.0) in
    grind (arith, nat_tests, here x, rest)
remove_here number n (x ∷ xs) (suc at) up lt here =
    let below : number x < number (get_or xs at x) = All-from_recursion (λ later. number x < number later) xs up.0 at x (omega arith) in
    grind (arith, nat_tests, below, here x, remove_here number n xs at up.1 (omega arith) here)

-- writing over it at its place is placing
pub set_here : {X : Type 0} (number : X → ℕ) (new : X) (xs : List X) (at : ℕ) → Ascend number xs → at < length xs → number (get_or xs at new) ≡ number new → set xs at new ≡ placed_by number new xs
set_here number new [] at up lt here = absurd (omega arith)
set_here number new (x ∷ xs) zero up lt here = grind (arith, nat_tests, here)
set_here number new (x ∷ xs) (suc at) up lt here =
    let below : number x < number (get_or xs at new) = All-from_recursion (λ later. number x < number later) xs up.0 at new (omega arith) in
    grind (arith, nat_tests, below, here, set_here number new xs at up.1 (omega arith) here)

-- so is putting it in at its place
pub insert_here : {X : Type 0} (number : X → ℕ) (new : X) (xs : List X) (at : ℕ) → IsPlaceOf number (number new) xs (Err at) → insert xs at new ≡ placed_by number new xs
insert_here number new [] zero place = refl
insert_here number new [] (suc at) place = absurd (omega (arith, place.0))
insert_here number new (x ∷ xs) zero place = grind (arith, nat_tests, place.2 0 x (omega arith) (omega arith))
insert_here number new (x ∷ xs) (suc at) place =
    let below : number x < number new = place.1 0 x (omega arith) (omega arith) in
    let rest = insert_here number new xs at (omega (arith, place.0), λ k d low lt. place.1 (suc k) d (omega arith) (omega arith), λ k d low lt. place.2 (suc k) d (omega arith) (omega arith)) in
    grind (arith, nat_tests, below, rest)

-- what stands from a point on is what is above a number, where the point parts the list so
pub drop_behind : {X : Type 0} (number : X → ℕ) (n : ℕ) (xs : List X) (at : ℕ) → at ≤ length xs → AllWithin (λ x. number x ≤ n) xs 0 at → AllWithin (λ x. n < number x) xs at (length xs) → drop at xs ≡ filter (λ x. nat_lt n (number x)) xs
drop_behind number n [] zero le low high = refl
drop_behind number n [] (suc at) le low high = refl
drop_behind number n (x ∷ xs) zero le low high =
    grind (arith, nat_tests, high 0 x (omega arith) (omega arith), drop_behind number n xs zero (omega arith) (λ k d from to. absurd (omega arith)) (λ k d from to. high (suc k) d (omega arith) (omega arith)))
drop_behind number n (x ∷ xs) (suc at) le low high =
    grind (arith, nat_tests, low 0 x (omega arith) (omega arith), drop_behind number n xs at (omega arith) (λ k d from to. low (suc k) d (omega arith) (omega arith)) (λ k d from to. high (suc k) d (omega arith) (omega arith)))
