-- Lists in ascending order, and one more element in them.
use Rattle.std.proofs.Common.{◌≡◌, ◌≢◌, ℕ, ◌<◌, Bool, true, false, List, [], ◌∷◌, ◌++◌, refl, ap, arith}
use Rattle.std.specs.Prelude.{◌==◌, nat_lt, not, filter, All, is_some}
use Rattle.std.specs.List.{AllByRecursion, find, list_any}
use Rattle.std.proofs.lemmas.Bool.Decides.{nat_tests}
use Rattle.std.proofs.lemmas.List.Elements.{recursion_from_All}
use Rattle.zs_rows.specs.Ascending.{Ascend, placed}
use Rattle.zs_keyed.specs.Ascending.{placed_by, put_new}
pub use Rattle.zs_rows.proofs.Ascending.{all_weaker, all_both, all_filter, ascend_filter}

pub by_test : {P : Type 0} (b : Bool) → (b ≡ true → P) → (b ≡ false → P) → P
by_test true f g = f refl
by_test false f g = g refl

-- what is found is there
pub found_any : {X : Type 0} (p : X → Bool) (xs : List X) → is_some (find p xs) ≡ list_any p xs
found_any p [] = refl
found_any p (x ∷ xs) = by_test (p x) (λ k. rw k refl) (λ k. rw k (found_any p xs))

-- a number that none passes as having is not had
pub none_has : {X : Type 0} (number : X → ℕ) (n : ℕ) (xs : List X) → list_any (λ x. number x == n) xs ≡ false → AllByRecursion (λ x. number x ≢ n) xs
none_has number n [] none = tt
none_has number n (x ∷ xs) none = ((λ same. grind (arith, nat_tests, same, none)), none_has number n xs (grind (arith, nat_tests, none)))

-- and none passes as having a number that is not had
pub any_none : {X : Type 0} (number : X → ℕ) (n : ℕ) (xs : List X) → AllByRecursion (λ x. number x ≢ n) xs → list_any (λ x. number x == n) xs ≡ false
any_none number n [] all = refl
any_none number n (x ∷ xs) all = grind (arith, nat_tests, all.0, any_none number n xs all.1)

-- one that is above all others has none of their numbers
pub above_all : {X : Type 0} (number : X → ℕ) (n : ℕ) (xs : List X) → All (λ x. number x < n) xs → AllByRecursion (λ x. number x ≢ n) xs
above_all number n xs below = all_weaker (λ x. number x < n) (λ x. number x ≢ n) (λ x lt same. omega (arith, lt, same)) xs (recursion_from_All (λ x. number x < n) xs below)

none_below : {X : Type 0} (number : X → ℕ) (n : ℕ) (xs : List X) → AllByRecursion (λ x. n < number x) xs → filter (λ x. nat_lt (number x) n) xs ≡ []
none_below number n [] all = refl
none_below number n (x ∷ xs) all = grind (arith, nat_tests, all.0, none_below number n xs all.1)

rest_above : {X : Type 0} (number : X → ℕ) (n : ℕ) (xs : List X) → AllByRecursion (λ x. n < number x) xs → filter (λ x. not (nat_lt (number x) n)) xs ≡ xs
rest_above number n [] all = refl
rest_above number n (x ∷ xs) all = grind (arith, nat_tests, all.0, rest_above number n xs all.1)

-- an element between those below its number and the others is in its place
pub placed_is : {X : Type 0} (number : X → ℕ) (new : X) (xs : List X) → Ascend number xs → AllByRecursion (λ x. number x ≢ number new) xs → placed number (number new) (new ∷ []) xs ≡ placed_by number new xs
placed_is number new [] up apart = refl
placed_is {X} number new (x ∷ xs) up apart = go (nat_lt (number new) (number x)) refl (grind (arith, nat_tests, apart.0)) (placed_is number new xs up.1 apart.1)
  where
    go : (b : Bool) → nat_lt (number new) (number x) ≡ b → (number x == number new) ≡ false → placed number (number new) (new ∷ []) xs ≡ placed_by number new xs → placed number (number new) (new ∷ []) (x ∷ xs) ≡ placed_by number new (x ∷ xs)
    go true below differs more =
        let over = all_weaker (λ later. number x < number later) (λ later. number new < number later) (λ y lies. grind (arith, nat_tests, below, lies)) xs up.0 in
        grind (arith, nat_tests, differs, below, none_below number (number new) xs over, rest_above number (number new) xs over)
    go false above differs more = grind (arith, nat_tests, differs, above, more)

placed_behind : {X : Type 0} (number : X → ℕ) (new : X) (xs : List X) → AllByRecursion (λ x. number x < number new) xs → placed_by number new xs ≡ xs ++ new ∷ []
placed_behind number new [] below = refl
placed_behind number new (x ∷ xs) below = grind (arith, nat_tests, below.0, placed_behind number new xs below.1)

-- the place of one that is above all others is behind them
pub placed_last : {X : Type 0} (number : X → ℕ) (new : X) (xs : List X) → All (λ x. number x < number new) xs → placed_by number new xs ≡ xs ++ new ∷ []
placed_last number new xs below = placed_behind number new xs (recursion_from_All (λ x. number x < number new) xs below)

-- where one with its number is there, all stays; else it is placed
pub put_there : {X : Type 0} (number : X → ℕ) (new : X) (xs : List X) → list_any (λ x. number x == number new) xs ≡ true → put_new number new xs ≡ xs
put_there number new xs there = rw there refl

pub put_placed : {X : Type 0} (number : X → ℕ) (new : X) (xs : List X) → list_any (λ x. number x == number new) xs ≡ false → put_new number new xs ≡ placed_by number new xs
put_placed number new xs none = rw none refl
