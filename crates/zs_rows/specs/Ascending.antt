-- Lists in ascending order, and a place in one.
use Rattle.std.specs.Prelude.{◌≡◌, ℕ, ◌<◌, ◌≤◌, nat_lt, not, List, [], ◌∷◌, ◌++◌, filter, length, Result, MatchResult}
use Rattle.std.specs.List.{AllByRecursion, AllWithin, HoldsAt}

-- the numbers of the elements rise from each one to all behind it
abbrev pub Ascend : {X : Type 0} → (X → ℕ) → List X → Type 0
Ascend number [] = Unit {0}
Ascend number (x ∷ xs) = AllByRecursion (λ later. number x < number later) xs × Ascend number xs

-- the elements with more of them, which stand before the first whose number is n or above
abbrev pub placed : {X : Type 0} → (X → ℕ) → ℕ → List X → List X → List X
placed number n more xs = filter (λ x. nat_lt (number x) n) xs ++ (more ++ filter (λ x. not (nat_lt (number x) n)) xs)

-- the element at that place has the number, or the number would go to that place
abbrev pub IsPlaceOf : {X : Type 0} → (X → ℕ) → ℕ → List X → Result ℕ ℕ → Type 0
IsPlaceOf number n xs place = MatchResult place (λ at. (at < length xs) × HoldsAt (λ x. number x ≡ n) xs at) (λ at. (at ≤ length xs) × AllWithin (λ x. number x < n) xs 0 at × AllWithin (λ x. n < number x) xs at (length xs))
