-- What stands at a place that a search found, and what an edit there makes of the list.
use Rattle.std.proofs.Common.{◌≡◌, ℕ, zero, suc, ◌-◌, ◌<◌, ◌≤◌, ◌≢◌, Bool, true, false, List, [], ◌∷◌, ◌++◌, length, get_or, take, drop, Some, None, Result, Ok, Err, inl, inr, refl, sym, ap, ◌∙◌, arith}
use Rattle.std.specs.Prelude.{◌==◌, nat_lt, nat_le, not, filter, is_some, is_ok}
use Rattle.std.specs.List.{AllByRecursion, AllWithin, HoldsAt, find, remove}
use Rattle.std.specs.List.Sorted.{IsSearchInRange, IsBinarySearchResult, IsPartitionedBy, IsPartitionPoint}
use Rattle.std.specs.Ordering.{nat_cmp, ordering_index}
use Rattle.std.proofs.lemmas.Bool.{cases_lt}
use Rattle.std.proofs.lemmas.Bool.Decides.{nat_tests}
use Rattle.std.proofs.lemmas.Cmp.{ranked}
use Rattle.std.proofs.lemmas.List.{take_rest}
use Rattle.std.proofs.lemmas.List.Sorted.{IsPartitionedBy-leb}
use Rattle.std.proofs.lemmas.List.Elements.{All-from_recursion, recursion_from_All}
use Rattle.zs_query.specs.Ascending.{Ascend, IsPlaceOf, placed}
use Rattle.zs_query.specs.Gets.{is_behind}
use Rattle.zs_query.proofs.Ascending.{ascend_rises, all_weaker}

-- a binary search ends at the number, or at the place for it
pub searched : {X : Type 0} (number : X → ℕ) (n : ℕ) (xs : List X) → Ascend number xs → (r : Result ℕ ℕ) → IsSearchInRange r (length xs) → IsBinarySearchResult (λ x. nat_cmp (number x) n) xs r → IsPlaceOf number n xs r
searched number n xs up (Ok at) in_range equal = (in_range, λ d. ranked _ n _ (sym (equal d)))
searched {X} number n xs up (Err at) in_range parted =
    let both = parted (λ i j d le lt. rising i j d (ascend_rises number xs up i j d le lt)) in
    (in_range, λ k d low lt. ranked _ n _ (sym (both.0 k d low lt)), λ k d low lt. ranked _ n _ (sym (both.1 k d low lt)))
  where
    rising : (i j : ℕ) (d : X) → number (get_or xs i d) ≤ number (get_or xs j d) → ordering_index (nat_cmp (number (get_or xs i d)) n) ≤ ordering_index (nat_cmp (number (get_or xs j d)) n)
    rising i j d le = grind (arith, nat_tests, le)

-- where a number has a place of its own, no element has it
pub missing : {X : Type 0} (number : X → ℕ) (n : ℕ) (xs : List X) (at : ℕ) → IsPlaceOf number n xs (Err at) → AllByRecursion (λ x. number x ≢ n) xs
missing number n xs at place = recursion_from_All _ xs (λ k d lt same. elim (cases_lt k at) [
  | inl below ↦ omega (arith, place.1 k d (omega arith) below, same)
  | inr above ↦ omega (arith, place.2 k d above lt, same)
])

-- it is not found
pub find_none : {X : Type 0} (number : X → ℕ) (n : ℕ) (xs : List X) → AllByRecursion (λ x. number x ≢ n) xs → find (λ x. number x == n) xs ≡ None
find_none number n [] all = refl
find_none number n (x ∷ xs) all = grind (arith, nat_tests, all.0, find_none number n xs all.1)

-- leaving it out leaves all
pub filter_none : {X : Type 0} (number : X → ℕ) (n : ℕ) (xs : List X) → AllByRecursion (λ x. number x ≢ n) xs → filter (λ x. not (number x == n)) xs ≡ xs
filter_none number n [] all = refl
filter_none number n (x ∷ xs) all = grind (arith, nat_tests, all.0, filter_none number n xs all.1)

-- the element at its place is found
pub find_here : {X : Type 0} (number : X → ℕ) (n : ℕ) (d : X) (xs : List X) (at : ℕ) → Ascend number xs → at < length xs → number (get_or xs at d) ≡ n → find (λ x. number x == n) xs ≡ Some (get_or xs at d)
find_here number n d [] at up lt here = absurd (omega arith)
find_here number n d (x ∷ xs) zero up lt here = grind (arith, nat_tests, here)
find_here number n d (x ∷ xs) (suc at) up lt here =
    let below : number x < number (get_or xs at d) = All-from_recursion (λ later. number x < number later) xs up.0 at d (omega arith) in
    grind (arith, nat_tests, below, here, find_here number n d xs at up.1 (omega arith) here)

-- taking it out at its place is leaving it out
pub remove_here : {X : Type 0} (number : X → ℕ) (n : ℕ) (xs : List X) (at : ℕ) → Ascend number xs → at < length xs → HoldsAt (λ x. number x ≡ n) xs at → remove xs at ≡ filter (λ x. not (number x == n)) xs
remove_here number n [] at up lt here = absurd (omega arith)
remove_here number n (x ∷ xs) zero up lt here =
    let rest = filter_none number n xs (all_weaker (λ later. number x < number later) (λ later. number later ≢ n) (λ y more same. omega (arith, more, same, here x)) xs up.0) in
    grind (arith, nat_tests, here x, rest)
remove_here number n (x ∷ xs) (suc at) up lt here =
    let below : number x < number (get_or xs at x) = All-from_recursion (λ later. number x < number later) xs up.0 at x (omega arith) in
    grind (arith, nat_tests, below, here x, remove_here number n xs at up.1 (omega arith) here)

-- what stands before a point that parts a list by a test
pub take_parted : {X : Type 0} (p : X → Bool) (xs : List X) (at : ℕ) → at ≤ length xs → AllWithin (λ x. p x ≡ true) xs 0 at → AllWithin (λ x. p x ≡ false) xs at (length xs) → take at xs ≡ filter p xs
take_parted p [] zero le low high = refl
take_parted p [] (suc at) le low high = absurd (omega arith)
take_parted p (x ∷ xs) zero le low high =
    let here = high 0 x (omega arith) (omega arith) in
    let rest = take_parted p xs zero (omega arith) (λ k d from to. absurd (omega arith)) (λ k d from to. high (suc k) d (omega arith) (omega arith)) in
    grind (arith, nat_tests, here, rest)
take_parted p (x ∷ xs) (suc at) le low high =
    let here = low 0 x (omega arith) (omega arith) in
    let rest = take_parted p xs at (omega arith) (λ k d from to. low (suc k) d (omega arith) (omega arith)) (λ k d from to. high (suc k) d (omega arith) (omega arith)) in
    grind (arith, nat_tests, here, rest)

-- and behind it
pub drop_parted : {X : Type 0} (p : X → Bool) (xs : List X) (at : ℕ) → at ≤ length xs → AllWithin (λ x. p x ≡ true) xs 0 at → AllWithin (λ x. p x ≡ false) xs at (length xs) → drop at xs ≡ filter (λ x. not (p x)) xs
drop_parted p [] zero le low high = refl
drop_parted p [] (suc at) le low high = absurd (omega arith)
drop_parted p (x ∷ xs) zero le low high =
    let here = high 0 x (omega arith) (omega arith) in
    let rest = drop_parted p xs zero (omega arith) (λ k d from to. absurd (omega arith)) (λ k d from to. high (suc k) d (omega arith) (omega arith)) in
    grind (arith, nat_tests, here, rest)
drop_parted p (x ∷ xs) (suc at) le low high =
    let here = low 0 x (omega arith) (omega arith) in
    let rest = drop_parted p xs at (omega arith) (λ k d from to. low (suc k) d (omega arith) (omega arith)) (λ k d from to. high (suc k) d (omega arith) (omega arith)) in
    grind (arith, nat_tests, here, rest)

-- what a partition point parts
pub parted_at : {X : Type 0} (number : X → ℕ) (n : ℕ) (more xs : List X) (at : ℕ) → Ascend number xs → at ≤ length xs → (IsPartitionedBy (λ x. nat_lt (number x) n) xs → IsPartitionPoint (λ x. nat_lt (number x) n ≡ true) (λ x. nat_lt (number x) n ≡ false) xs at) → take at xs ++ (more ++ drop at xs) ≡ placed number n more xs
parted_at {X} number n more xs at up le parts =
    let both = parts (λ i j d le lt is. falls i j d (ascend_rises number xs up i j d le lt) is) in
    rw (take_parted (λ x. nat_lt (number x) n) xs at le both.0 both.1, drop_parted (λ x. nat_lt (number x) n) xs at le both.0 both.1) refl
  where
    falls : (i j : ℕ) (d : X) → number (get_or xs i d) ≤ number (get_or xs j d) → nat_lt (number (get_or xs j d)) n ≡ true → nat_lt (number (get_or xs i d)) n ≡ true
    falls i j d le is = grind (arith, nat_tests, le, is)

-- what stands from a point on is what is above a number, where the point parts the list so
pub drop_behind : {X : Type 0} (number : X → ℕ) (n : ℕ) (xs : List X) (at : ℕ) → at ≤ length xs → AllWithin (λ x. number x ≤ n) xs 0 at → AllWithin (λ x. n < number x) xs at (length xs) → drop at xs ≡ filter (λ x. nat_lt n (number x)) xs
drop_behind number n [] zero le low high = refl
drop_behind number n [] (suc at) le low high = refl
drop_behind number n (x ∷ xs) zero le low high =
    grind (arith, nat_tests, high 0 x (omega arith) (omega arith), drop_behind number n xs zero (omega arith) (λ k d from to. absurd (omega arith)) (λ k d from to. high (suc k) d (omega arith) (omega arith)))
drop_behind number n (x ∷ xs) (suc at) le low high =
    grind (arith, nat_tests, low 0 x (omega arith) (omega arith), drop_behind number n xs at (omega arith) (λ k d from to. low (suc k) d (omega arith) (omega arith)) (λ k d from to. high (suc k) d (omega arith) (omega arith)))

-- all are behind where there was no last one
pub all_behind : {X : Type 0} (number : X → ℕ) (xs : List X) → xs ≡ filter (λ x. is_behind None (number x)) xs
all_behind number [] = refl
all_behind number (x ∷ xs) = ap (λ rest. x ∷ rest) (all_behind number xs)

-- what a partition point leaves is what is above a number
pub behind_point : {X : Type 0} (number : X → ℕ) (n : ℕ) (xs : List X) (at : ℕ) → Ascend number xs → at ≤ length xs → (IsPartitionedBy (λ x. nat_le (number x) n) xs → IsPartitionPoint (λ x. nat_le (number x) n ≡ true) (λ x. nat_le (number x) n ≡ false) xs at) → take (length xs - at) (drop at xs) ≡ filter (λ x. is_behind (Some n) (number x)) xs
behind_point number n xs at up le parts =
    let both = parts (IsPartitionedBy-leb number xs n (ascend_rises number xs up)) in
    take_rest xs at ∙ drop_behind number n xs at le (λ k d low lt. low_of _ (both.0 k d low lt)) (λ k d low lt. high_of _ (both.1 k d low lt))
  where
    low_of : (m : ℕ) → nat_le m n ≡ true → m ≤ n
    low_of m is = grind (arith, nat_tests, is)

    high_of : (m : ℕ) → nat_le m n ≡ false → n < m
    high_of m is = grind (arith, nat_tests, is)

-- whether a search found the number
pub is_there : {X : Type 0} (number : X → ℕ) (n : ℕ) (xs : List X) → Ascend number xs → (r : Result ℕ ℕ) → IsPlaceOf number n xs r → is_ok r ≡ is_some (find (λ x. number x == n) xs)
is_there number n xs up (Err at) place = ap is_some (sym (find_none number n xs (missing number n xs at place)))
is_there number n [] up (Ok at) place = absurd (omega (arith, place.0))
is_there number n (x ∷ xs) up (Ok at) place = ap is_some (sym (find_here number n x (x ∷ xs) at up place.0 (place.1 x)))
