-- Counts of those that pass a test.
use Rattle.std.proofs.Common.{◌≡◌, ◌≢◌, ℕ, ◌+◌, ◌<◌, Bool, true, false, List, [], ◌∷◌, ◌++◌, Option, Some, None, refl, sym, ap, ◌∙◌, arith}
use Rattle.std.specs.Prelude.{◌==◌, nat_lt, not, map, filter, option_map, cond}
use Rattle.std.specs.List.{AllByRecursion, count_by, find, list_any}
use Rattle.std.proofs.lemmas.Bool.Decides.{nat_tests}
use Rattle.std.proofs.lemmas.List.Sums.{sum_by-cons, sum_by-append}
use Rattle.zs_subscriptions.specs.Ascending.{Ascend, placed_by}
use Rattle.zs_tables.specs.MatchingLaws.{one_if}
use Rattle.zs_subscriptions.proofs.Ascending.{all_weaker}
use Rattle.zs_subscriptions.proofs.ByKey.{by_test, passed}
use Rattle.zs_subscriptions.proofs.Searching.{filter_none, find_none}

pub count_cons : {X : Type 0} (p : X → Bool) (x : X) (xs : List X) → count_by p (x ∷ xs) ≡ one_if (p x) + count_by p xs
count_cons p x xs = sum_by-cons (λ y. cond (p y) 1 0) x xs

pub count_push : {X : Type 0} (p : X → Bool) (xs : List X) (x : X) → count_by p (xs ++ x ∷ []) ≡ count_by p xs + one_if (p x)
count_push p [] x = count_cons p x [] ∙ omega arith
count_push p (y ∷ xs) x = rw (count_cons p y (xs ++ x ∷ []), count_cons p y xs, count_push p xs x) (omega arith)

pub count_append : {X : Type 0} (p : X → Bool) (xs ys : List X) → count_by p (xs ++ ys) ≡ count_by p xs + count_by p ys
count_append p xs ys = sum_by-append (λ y. cond (p y) 1 0) xs ys

pub count_map : {X Y : Type 0} (p : Y → Bool) (f : X → Y) (xs : List X) → count_by p (map f xs) ≡ count_by (λ x. p (f x)) xs
count_map p f [] = refl
count_map p f (x ∷ xs) = rw (count_cons p (f x) (map f xs), count_cons (λ y. p (f y)) x xs, count_map p f xs) refl

-- without the one of a number
pub count_without : {X : Type 0} (number : X → ℕ) (p : X → Bool) (n : ℕ) (xs : List X) → Ascend number xs
    → count_by p (filter (λ x. not (number x == n)) xs) + one_if (passed p (find (λ x. number x == n) xs)) ≡ count_by p xs
count_without number p n [] up = refl
count_without number p n (x ∷ xs) up =
    by_test (number x == n)
    (λ k.
    let same : number x ≡ n = grind (arith, nat_tests, k) in
    let others : filter (λ y. not (number y == n)) xs ≡ xs = filter_none number n xs (all_weaker (λ later. number x < number later) (λ later. number later ≢ n) (λ later more eq. omega (arith, more, eq, same)) xs up.0) in
    rw (k, others, count_cons p x xs) (omega arith))
    (λ k. rw (k, count_cons p x (filter (λ y. not (number y == n)) xs), count_cons p x xs) (omega (arith, count_without number p n xs up.1)))

-- with one placed by its number
pub count_placed : {X : Type 0} (number : X → ℕ) (p : X → Bool) (new : X) (xs : List X) → Ascend number xs
    → count_by p (placed_by number new xs) + one_if (passed p (find (λ x. number x == number new) xs)) ≡ count_by p xs + one_if (p new)
count_placed number p new [] up = rw (count_cons p new []) (omega arith)
count_placed number p new (x ∷ xs) up =
    by_test (number x == number new)
    (λ k. rw (k, count_cons p new xs, count_cons p x xs) (omega arith))
    (λ k. by_test (nat_lt (number new) (number x))
    (λ m.
    let less : number new < number x = grind (arith, nat_tests, m) in
    let none : find (λ y. number y == number new) xs ≡ None = find_none number (number new) xs (all_weaker (λ later. number x < number later) (λ later. number later ≢ number new) (λ later more eq. omega (arith, more, eq, less)) xs up.0) in
    rw (k, m, none, count_cons p new (x ∷ xs)) (omega arith))
    (λ m. rw (k, m, count_cons p x (placed_by number new xs), count_cons p x xs) (omega (arith, count_placed number p new xs up.1))))

none_more : (n : ℕ) → 0 + n ≡ n
none_more n = omega arith

-- some pass where the count is not zero
pub any_counted : {X : Type 0} (p : X → Bool) (xs : List X) → list_any p xs ≡ nat_lt 0 (count_by p xs)
any_counted p [] = refl
any_counted p (x ∷ xs) =
    by_test (p x)
    (λ k. rw (count_cons p x xs, k) (grind (arith, nat_tests)))
    (λ k. rw (count_cons p x xs, k) (any_counted p xs ∙ ap (nat_lt 0) (sym (none_more (count_by p xs)))))
