-- Numbers in ascending order.
use Rattle.std.proofs.Common.{◌≡◌, ℕ, zero, suc, ◌+◌, ◌<◌, ◌≤◌, Bool, true, false, List, [], ◌∷◌, ◌++◌, length, drop, Option, Some, None, refl, sym, ◌∙◌, ap, inl, inr, arith}
use Rattle.std.specs.Prelude.{nat_lt, nat_le, filter, map, min, if◌then◌else◌}
use Rattle.std.specs.List.{AllByRecursion, AllWithin, sum_by}
use Rattle.std.specs.List.Sorted.{IsSorted, IsPermutation, IsNonDecreasingBy}
use Rattle.std.specs.Ordering.{nat_cmp}
use Rattle.std.proofs.lemmas.Bool.{cases_lt}
use Rattle.std.proofs.lemmas.Bool.Decides.{nat_tests}
use Rattle.std.proofs.lemmas.List.Sums.{sum_by-cons}
use Rattle.std.proofs.lemmas.List.Sorted.{IsNonDecreasingBy-from_sort, sum_by-IsPermutation}
use Rattle.std.proofs.lemmas.List.Elements.{recursion_from_All, All-from_recursion}
use Rattle.zs_keys.specs.Matching.{intersects}
use Rattle.zs_tree.specs.declared.entry.Entry.{Entry}
use Rattle.zs_tree.specs.Rows.{Row, placed, matches, is_above, first_above}
use Rattle.zs_tree.specs.Entries.{row_of, by_number, AllAscend, hits, hit_ids, lesser}
use Rattle.zs_tree.proofs.Bools.{split}
use Rattle.zs_tree.proofs.Numbers.{filter_number}

-- a number among ascending ones
abbrev put : ℕ → List ℕ → List ℕ
put n [] = n ∷ []
put n (m ∷ ms) = if nat_lt n m then n ∷ m ∷ ms else m ∷ put n ms

abbrev pub sorted : List ℕ → List ℕ
sorted [] = []
sorted (n ∷ ns) = put n (sorted ns)

put_placed : (new : Row) (rows : List Row) → map (λ row. row.id) (placed new rows) ≡ put new.id (map (λ row. row.id) rows)
put_placed new [] = refl
put_placed new (row ∷ rows) =
    let ih = put_placed new rows in
    split (nat_lt new.id row.id) (λ l. rw l refl) (λ l. rw l (ap (λ (rest : List ℕ). row.id ∷ rest) ih))

sorted_number : (rows : List Row) → map (λ row. row.id) (by_number rows) ≡ sorted (map (λ row. row.id) rows)
sorted_number [] = refl
sorted_number (row ∷ rows) = put_placed row (by_number rows) ∙ ap (put row.id) (sorted_number rows)

ids_of_rows : (text : List ℕ) (es : List Entry) → map (λ row. row.id) (filter (λ row. intersects text row.text) (map row_of es)) ≡ hit_ids text es
ids_of_rows text [] = refl
ids_of_rows text (e ∷ es) =
    let ih = ids_of_rows text es in
    split (hits text e) (λ k. rw k (ap (λ (rest : List ℕ). e.id ∷ rest) ih)) (λ k. rw k ih)

-- what matches in ascending order is what hits in any order, sorted
pub matches_sorted : (text : List ℕ) (es : List Entry) → matches text (by_number (map row_of es)) ≡ sorted (hit_ids text es)
matches_sorted text es =
    ap (map (λ (row : Row). row.id)) (filter_number (λ row. intersects text row.text) (map row_of es))
    ∙ sorted_number (filter (λ (row : Row). intersects text row.text) (map row_of es)) ∙ ap sorted (ids_of_rows text es)

abbrev pub Ascends : List ℕ → Type 0
Ascends [] = Unit {0}
Ascends (n ∷ ns) = AllByRecursion (λ m. n ≤ m) ns × Ascends ns

all_put : (P : ℕ → Type 0) (n : ℕ) (ms : List ℕ) → P n → AllByRecursion P ms → AllByRecursion P (put n ms)
all_put P n [] h all = (h, tt)
all_put P n (m ∷ ms) h all =
    let ih = all_put P n ms h all.1 in
    split (nat_lt n m) (λ l. rw l (h, all)) (λ l. rw l (all.0, ih))

all_above : (n m : ℕ) (ms : List ℕ) → n ≤ m → AllByRecursion (λ k. m ≤ k) ms → AllByRecursion (λ k. n ≤ k) ms
all_above n m [] le h = tt
all_above n m (k ∷ ms) le h = (omega (arith, le, h.0), all_above n m ms le h.1)

put_ascends : (n : ℕ) (ms : List ℕ) → Ascends ms → Ascends (put n ms)
put_ascends n [] up = (tt, tt)
put_ascends n (m ∷ ms) up =
    let ih = put_ascends n ms up.1 in
    split (nat_lt n m)
    (λ l. let le : n ≤ m = grind (arith, nat_tests, l) in rw l ((le, all_above n m ms le up.0), up))
    (λ l. let le : m ≤ n = grind (arith, nat_tests, l) in rw l (all_put (λ k. m ≤ k) n ms le up.0, ih))

sorted_ascends : (ns : List ℕ) → Ascends (sorted ns)
sorted_ascends [] = tt
sorted_ascends (n ∷ ns) = put_ascends n (sorted ns) (sorted_ascends ns)

sum_put : (f : ℕ → ℕ) (n : ℕ) (ms : List ℕ) → sum_by f (put n ms) ≡ f n + sum_by f ms
sum_put f n [] = sum_by-cons f n []
sum_put f n (m ∷ ms) =
    let ih = sum_put f n ms in
    let a = sum_by-cons f n (m ∷ ms) in
    let b = sum_by-cons f m ms in
    let d = sum_by-cons f m (put n ms) in
    split (nat_lt n m) (λ l. rw l a) (λ l. rw l (omega (arith, ih, b, d)))

sum_sorted : (f : ℕ → ℕ) (ns : List ℕ) → sum_by f (sorted ns) ≡ sum_by f ns
sum_sorted f [] = refl
sum_sorted f (n ∷ ns) = sum_put f n (sorted ns) ∙ rw (sum_sorted f ns) (sym (sum_by-cons f n ns))

up_to : ℕ → ℕ → ℕ
up_to x n = if nat_le n x then 1 else 0

none_up_to : (x : ℕ) (ys : List ℕ) → AllByRecursion (λ n. x < n) ys → sum_by (up_to x) ys ≡ 0
unfolding up_to
none_up_to x [] h = refl
none_up_to x (y ∷ ys) h =
    let l : nat_le y x ≡ false = grind (arith, nat_tests, h.0) in
    sum_by-cons (up_to x) y ys ∙ rw l (let ih = none_up_to x ys h.1 in omega (arith, ih))

up_to_itself : (x : ℕ) → up_to x x ≡ 1
unfolding up_to
up_to_itself x = let l : nat_le x x ≡ true = grind (arith, nat_tests) in rw l refl

all_beyond : (x y : ℕ) (ys : List ℕ) → x < y → AllByRecursion (λ n. y ≤ n) ys → AllByRecursion (λ n. x < n) ys
all_beyond x y [] lt h = tt
all_beyond x y (n ∷ ys) lt h = (omega (arith, lt, h.0), all_beyond x y ys lt h.1)

not_below : (x y : ℕ) (xs ys : List ℕ) → Ascends (y ∷ ys) → sum_by (up_to x) (x ∷ xs) ≡ sum_by (up_to x) (y ∷ ys) → x < y → ⊥
not_below x y xs ys up same lt =
    let none = none_up_to x (y ∷ ys) (lt, all_beyond x y ys lt up.0) in
    let one = up_to_itself x in
    let parts = sum_by-cons (up_to x) x xs in
    omega (arith, none, one, parts, same)

length_sum : (xs : List ℕ) → sum_by (λ _. 1) xs ≡ length xs
length_sum [] = refl
length_sum (x ∷ xs) = let p = sum_by-cons (λ (n : ℕ). 1) x xs in let ih = length_sum xs in omega (arith, p, ih)

-- ascending lists that have each number as often are equal
same_ascending : (xs ys : List ℕ) → Ascends xs → Ascends ys → ((f : ℕ → ℕ) → sum_by f xs ≡ sum_by f ys) → xs ≡ ys
same_ascending [] [] p q same = refl
same_ascending [] (y ∷ ys) p q same =
    absurd (let e = same (λ _. 1) in let k = length_sum (y ∷ ys) in let l = length_sum [] in omega (arith, e, k, l))
same_ascending (x ∷ xs) [] p q same =
    absurd (let e = same (λ _. 1) in let k = length_sum (x ∷ xs) in let l = length_sum [] in omega (arith, e, k, l))
same_ascending (x ∷ xs) (y ∷ ys) p q same =
    let low : x < y → ⊥ = not_below x y xs ys q (same (up_to x)) in
    let high : y < x → ⊥ = not_below y x ys xs p (sym (same (up_to y))) in
    let first : x ≡ y = omega (arith, low, high) in
    let rest : (f : ℕ → ℕ) → sum_by f xs ≡ sum_by f ys = λ f.
    let a = sum_by-cons f x xs in let b = sum_by-cons f y ys in let e : f x ≡ f y = ap f first in omega (arith, a, b, e, same f) in
    let more = same_ascending xs ys p.1 q.1 rest in
    cc

ascends_of : (xs : List ℕ) → IsNonDecreasingBy (λ x. x) xs → Ascends xs
ascends_of [] h = tt
ascends_of (x ∷ xs) h = (
  recursion_from_All (λ n. x ≤ n) xs (λ k d lt. h 0 (suc k) d (omega arith) (omega arith)),
  ascends_of xs (λ i j d le lt. h (suc i) (suc j) d (omega arith) (omega arith)),
)

-- a sort makes of what hits what matches
pub sorted_is : (ns ms : List ℕ) → IsPermutation ns ms → IsSorted nat_cmp ms → ms ≡ sorted ns
sorted_is ns ms moved up =
    same_ascending ms (sorted ns) (ascends_of ms (IsNonDecreasingBy-from_sort (λ n. n) ms up)) (sorted_ascends ns)
    (λ f. sum_by-IsPermutation f ns ms moved ∙ sym (sum_sorted f ns))

abbrev picked : Option ℕ → ℕ → Option ℕ
picked after n = if is_above after n then Some n else None

-- the least of some numbers that is above the last one
abbrev pub least_of : Option ℕ → List ℕ → Option ℕ
least_of after [] = None
least_of after (n ∷ ns) = lesser (picked after n) (least_of after ns)

pub lesser_none : (a : Option ℕ) → lesser a None ≡ a
lesser_none None = refl
lesser_none (Some a) = refl

pub lesser_assoc : (a b d : Option ℕ) → lesser (lesser a b) d ≡ lesser a (lesser b d)
lesser_assoc None b d = refl
lesser_assoc (Some a) None d = refl
lesser_assoc (Some a) (Some b) None = refl
lesser_assoc (Some a) (Some b) (Some d) = ap Some (omega arith)

pub least_parts : (after : Option ℕ) (xs ys : List ℕ) → least_of after (xs ++ ys) ≡ lesser (least_of after xs) (least_of after ys)
least_parts after [] ys = refl
least_parts after (x ∷ xs) ys =
    ap (lesser (picked after x)) (least_parts after xs ys) ∙ sym (lesser_assoc (picked after x) (least_of after xs) (least_of after ys))

front_least : (after : Option ℕ) (n : ℕ) (ms : List ℕ) → AllByRecursion (λ m. n ≤ m) ms → lesser (Some n) (first_above after ms) ≡ Some n
front_least after n [] h = refl
front_least after n (m ∷ ms) h =
    let ih = front_least after n ms h.1 in
    let le : n ≤ m = h.0 in
    split (is_above after m) (λ k. rw k (ap Some (omega (arith, le)))) (λ k. rw k ih)

first_put : (after : Option ℕ) (n : ℕ) (ms : List ℕ) → Ascends ms → first_above after (put n ms) ≡ lesser (picked after n) (first_above after ms)
first_put after n [] up = sym (lesser_none (picked after n))
first_put after n (m ∷ ms) up =
    let ih = first_put after n ms up.1 in
    split (nat_lt n m)
    (λ l. let le : n ≤ m = grind (arith, nat_tests, l) in
    let front = front_least after n (m ∷ ms) (le, all_above n m ms le up.0) in
    split (is_above after n) (λ k. rw (l, k) (sym front)) (λ k. rw (l, k) refl))
    (λ l. let le : m ≤ n = grind (arith, nat_tests, l) in
    split (is_above after m)
    (λ k. rw (l, k) (split (is_above after n) (λ j. rw j (ap Some (omega (arith, le)))) (λ j. rw j refl)))
    (λ k. rw (l, k) ih))

-- the first of the sorted numbers that is above the last one is the least
pub least_sorted : (after : Option ℕ) (ns : List ℕ) → first_above after (sorted ns) ≡ least_of after ns
least_sorted after [] = refl
least_sorted after (n ∷ ns) =
    first_put after n (sorted ns) (sorted_ascends ns) ∙ ap (lesser (picked after n)) (least_sorted after ns)

-- so is the first of ascending ones
pub least_ascending : (after : Option ℕ) (ns : List ℕ) → Ascends ns → first_above after ns ≡ least_of after ns
least_ascending after [] up = refl
least_ascending after (n ∷ ns) up =
    let ih = least_ascending after ns up.1 in
    split (is_above after n)
    (λ k. rw (k, ← ih) (sym (front_least after n ns up.0)))
    (λ k. rw k ih)

-- the first behind a point that parts the numbers at the last one
pub first_behind : (n : ℕ) (es : List Entry) (at : ℕ) → at ≤ length es → AllWithin (λ (e : Entry). e.id ≤ n) es 0 at
    → AllWithin (λ (e : Entry). n < e.id) es at (length es) → first_above None (map (λ e. e.id) (drop at es)) ≡ first_above (Some n) (map (λ e. e.id) es)
first_behind n [] zero le low high = refl
first_behind n [] (suc at) le low high = refl
first_behind n (e ∷ es) zero le low high =
    let l : nat_lt n e.id ≡ true = grind (arith, nat_tests, high 0 e (omega arith) (omega arith)) in rw l refl
first_behind n (e ∷ es) (suc at) le low high =
    let l : nat_lt n e.id ≡ false = grind (arith, nat_tests, low 0 e (omega arith) (omega arith)) in
    rw l (first_behind n es at (omega arith) (λ k d a b. low (suc k) d (omega arith) (omega arith)) (λ k d a b. high (suc k) d (omega arith) (omega arith)))

pub id_order : (es : List Entry) → AllAscend es → IsNonDecreasingBy (λ (e : Entry). e.id) es
id_order [] up i j d le lt = absurd (omega arith)
id_order (e ∷ es) up zero zero d le lt = omega arith
id_order (e ∷ es) up zero (suc j) d le lt = All-from_recursion (λ (later : Entry). e.id ≤ later.id) es up.0 j d (omega arith)
id_order (e ∷ es) up (suc i) zero d le lt = absurd (omega arith)
id_order (e ∷ es) up (suc i) (suc j) d le lt = id_order es up.1 i j d (omega arith) (omega arith)

-- the numbers of a run
pub ids_ascend : (es : List Entry) → AllAscend es → Ascends (map (λ e. e.id) es)
ids_ascend [] up = tt
ids_ascend (e ∷ es) up = (above es up.0, ids_ascend es up.1)
  where
    above : (es : List Entry) → AllByRecursion (λ (later : Entry). e.id ≤ later.id) es → AllByRecursion (λ n. e.id ≤ n) (map (λ e. e.id) es)
    above [] h = tt
    above (f ∷ es) h = (h.0, above es h.1)
