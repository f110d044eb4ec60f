-- Lists in ascending order, and what is true of each element.
use Rattle.std.proofs.Common.{◌≡◌, ℕ, zero, suc, ◌+◌, ◌<◌, ◌≤◌, Bool, true, false, List, [], ◌∷◌, ◌++◌, length, refl, arith}
use Rattle.std.specs.Prelude.{nat_lt, not, filter}
use Rattle.std.specs.List.{AllByRecursion, list_any}
use Rattle.std.specs.List.Sorted.{IsNonDecreasingBy}
use Rattle.std.proofs.lemmas.Bool.Decides.{nat_tests}
use Rattle.std.proofs.lemmas.List.Elements.{All-from_recursion}
use Rattle.zs_rows.specs.Ascending.{Ascend, placed}

-- what holds of each element, and what follows from it
pub all_weaker : {X : Type 0} (P Q : X → Type 0) → ((x : X) → P x → Q x) → (xs : List X) → AllByRecursion P xs → AllByRecursion Q xs
all_weaker P Q f [] all = tt
all_weaker P Q f (x ∷ xs) all = (f x all.0, all_weaker P Q f xs all.1)

-- what follows from two facts on each element
pub all_both : {X : Type 0} (P Q R : X → Type 0) → ((x : X) → P x → Q x → R x) → (xs : List X) → AllByRecursion P xs → AllByRecursion Q xs → AllByRecursion R xs
all_both P Q R f [] all both = tt
all_both P Q R f (x ∷ xs) all both = (f x all.0 both.0, all_both P Q R f xs all.1 both.1)

-- what holds of each element holds of those that a filter keeps
pub all_filter : {X : Type 0} (P : X → Type 0) (p : X → Bool) (xs : List X) → AllByRecursion P xs → AllByRecursion P (filter p xs)
all_filter P p [] all = tt
all_filter P p (x ∷ xs) all = go (p x) refl (all_filter P p xs all.1)
  where
    go : (b : Bool) → p x ≡ b → AllByRecursion P (filter p xs) → AllByRecursion P (filter p (x ∷ xs))
    go true keeps rest = rw keeps (all.0, rest)
    go false leaves rest = rw leaves rest

-- each element that a filter keeps passes the test
pub all_pass : {X : Type 0} (p : X → Bool) (xs : List X) → AllByRecursion (λ x. p x ≡ true) (filter p xs)
all_pass p [] = tt
all_pass p (x ∷ xs) = go (p x) refl (all_pass p xs)
  where
    go : (b : Bool) → p x ≡ b → AllByRecursion (λ y. p y ≡ true) (filter p xs) → AllByRecursion (λ y. p y ≡ true) (filter p (x ∷ xs))
    go true keeps rest = rw keeps (keeps, rest)
    go false leaves rest = rw leaves rest

-- where no element passes the test, each fails it
pub all_fail : {X : Type 0} (p : X → Bool) (xs : List X) → list_any p xs ≡ false → AllByRecursion (λ x. p x ≡ false) xs
all_fail p [] none = tt
all_fail p (x ∷ xs) none = (grind (arith, nat_tests, none), all_fail p xs (grind (arith, nat_tests, none)))

-- what holds of each element of two lists
pub all_append : {X : Type 0} (P : X → Type 0) (xs ys : List X) → AllByRecursion P xs → AllByRecursion P ys → AllByRecursion P (xs ++ ys)
all_append P [] ys all more = more
all_append P (x ∷ xs) ys all more = (all.0, all_append P xs ys all.1 more)

-- an ascending list does not fall
pub ascend_rises : {X : Type 0} (number : X → ℕ) (xs : List X) → Ascend number xs → IsNonDecreasingBy number xs
ascend_rises number [] up i j d le lt = absurd (omega arith)
ascend_rises number (x ∷ xs) up zero zero d le lt = omega arith
ascend_rises number (x ∷ xs) up zero (suc j) d le lt = omega (arith, All-from_recursion (λ later. number x < number later) xs up.0 j d (omega arith))
ascend_rises number (x ∷ xs) up (suc i) zero d le lt = absurd (omega arith)
ascend_rises number (x ∷ xs) up (suc i) (suc j) d le lt = ascend_rises number xs up.1 i j d (omega arith) (omega arith)

-- a filter keeps the order
pub ascend_filter : {X : Type 0} (number : X → ℕ) (p : X → Bool) (xs : List X) → Ascend number xs → Ascend number (filter p xs)
ascend_filter number p [] up = tt
ascend_filter number p (x ∷ xs) up = go (p x) refl (ascend_filter number p xs up.1)
  where
    go : (b : Bool) → p x ≡ b → Ascend number (filter p xs) → Ascend number (filter p (x ∷ xs))
    go true keeps rest = rw keeps (all_filter (λ later. number x < number later) p xs up.0, rest)
    go false leaves rest = rw leaves rest

-- two ascending lists, the first below a number and the second not
pub ascend_append : {X : Type 0} (number : X → ℕ) (n : ℕ) (xs ys : List X) → Ascend number xs → Ascend number ys → AllByRecursion (λ x. number x < n) xs → AllByRecursion (λ y. n ≤ number y) ys → Ascend number (xs ++ ys)
ascend_append number n [] ys up more low high = more
ascend_append number n (x ∷ xs) ys up more low high = (
  all_append (λ later. number x < number later) xs ys up.0 (all_weaker (λ y. n ≤ number y) (λ y. number x < number y) (λ y le. omega (arith, le, low.0)) ys high),
  ascend_append number n xs ys up.1 more low.1 high,
)

-- what is placed between two numbers that no element lies between
pub ascend_placed : {X : Type 0} (number : X → ℕ) (n end : ℕ) (more xs : List X) → Ascend number xs → Ascend number more → AllByRecursion (λ x. n ≤ number x) more → AllByRecursion (λ x. number x < end) more → n ≤ end → AllByRecursion (λ x. (number x < n → ⊥) → end ≤ number x) xs → Ascend number (placed number n more xs)
ascend_placed {X} number n end more xs up more_up low high le free =
    ascend_append number n below (more ++ above) (ascend_filter number (λ x. nat_lt (number x) n) xs up)
    (ascend_append number end more above more_up (ascend_filter number (λ x. not (nat_lt (number x) n)) xs up) high far)
    (all_weaker (λ x. nat_lt (number x) n ≡ true) (λ x. number x < n) (λ x is. grind (arith, nat_tests, is)) below (all_pass (λ x. nat_lt (number x) n) xs))
    (all_append (λ x. n ≤ number x) more above low (all_weaker (λ x. end ≤ number x) (λ x. n ≤ number x) (λ x is. omega (arith, is)) above far))
  where
    below : List X
    below = filter (λ x. nat_lt (number x) n) xs

    above : List X
    above = filter (λ x. not (nat_lt (number x) n)) xs

    far : AllByRecursion (λ x. end ≤ number x) above
    far = all_both (λ x. (number x < n → ⊥) → end ≤ number x) (λ x. not (nat_lt (number x) n) ≡ true) (λ x. end ≤ number x) (λ x out is. out (λ lt. not_below x lt is)) above (all_filter (λ x. (number x < n → ⊥) → end ≤ number x) (λ x. not (nat_lt (number x) n)) xs free) (all_pass (λ x. not (nat_lt (number x) n)) xs)
      where
        not_below : (x : X) → number x < n → not (nat_lt (number x) n) ≡ true → ⊥
        not_below x lt is = grind (arith, nat_tests, lt, is)

-- what holds of each element and of those that are placed
pub all_placed : {X : Type 0} (P : X → Type 0) (number : X → ℕ) (n : ℕ) (more xs : List X) → AllByRecursion P xs → AllByRecursion P more → AllByRecursion P (placed number n more xs)
all_placed P number n more xs all more_all =
    all_append P (filter (λ x. nat_lt (number x) n) xs) (more ++ filter (λ x. not (nat_lt (number x) n)) xs) (all_filter P (λ x. nat_lt (number x) n) xs all)
    (all_append P more (filter (λ x. not (nat_lt (number x) n)) xs) more_all (all_filter P (λ x. not (nat_lt (number x) n)) xs all))

-- an ascending list between two numbers is no longer than their distance
pub ascend_short : {X : Type 0} (number : X → ℕ) (low high : ℕ) (xs : List X) → low ≤ high → Ascend number xs → AllByRecursion (λ x. low ≤ number x) xs → AllByRecursion (λ x. number x < high) xs → length xs + low ≤ high
ascend_short number low high [] le up above below = omega arith
ascend_short number low high (x ∷ xs) le up above below =
    let rest = ascend_short number (suc (number x)) high xs (omega (arith, below.0)) up.1 (all_weaker (λ later. number x < number later) (λ later. suc (number x) ≤ number later) (λ later lt. omega (arith, lt)) xs up.0) below.1 in
    omega (arith, rest, above.0)
