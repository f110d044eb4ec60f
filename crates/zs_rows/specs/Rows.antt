-- Rows in ascending number.
use Rattle.std.specs.Prelude.{◌≡◌, ℕ, ◌+◌, ◌<◌, ◌==◌, ◌&&◌, nat_lt, Bool, true, false, not, List, [], ◌∷◌, filter, map, length, Option, Some, None, if◌then◌else◌}
use Rattle.std.specs.List.{AllByRecursion}
use Rattle.zs_rows.specs.Ascending.{placed}

-- the row of that number, if there is one
abbrev pub row_at : {X : Type 0} → ℕ → List (ℕ × X) → Option X
row_at n [] = None
row_at n (e ∷ rows) = if e.0 == n then Some e.1 else row_at n rows

-- the rows without the one of that number
abbrev pub without_row : {X : Type 0} → ℕ → List (ℕ × X) → List (ℕ × X)
without_row n rows = filter (λ e. not (e.0 == n)) rows

-- the rows with another in the place of the one of that number
abbrev pub with_row : {X : Type 0} → ℕ → X → List (ℕ × X) → List (ℕ × X)
with_row n x rows = map (λ e. if e.0 == n then (e.0, x) else e) rows

-- the rows with one more
abbrev pub placed_row : {X : Type 0} → ℕ → X → List (ℕ × X) → List (ℕ × X)
placed_row n x rows = placed (λ e. e.0) n ((n, x) ∷ []) rows

-- a look-up finds one row at that number, and elsewhere what it found
abbrev pub Updates : {X : Type 0} → ℕ → Option X → List (ℕ × X) → List (ℕ × X) → Type 0
Updates n x before after = (q : ℕ) → row_at q after ≡ (if n == q then x else row_at q before)

-- whether a number is above the last one, if there was one
abbrev pub is_behind : Option ℕ → ℕ → Bool
is_behind None number = true
is_behind (Some after) number = nat_lt after number

-- the first of the rows
abbrev pub first_of : {X : Type 0} → List X → Option X
first_of [] = None
first_of (x ∷ xs) = Some x

-- each row knows its number
abbrev pub AreNumbered : {X : Type 0} → (X → ℕ) → List (ℕ × X) → Type 0
AreNumbered number rows = AllByRecursion (λ e. number e.1 ≡ e.0) rows

-- the rows without their numbers
abbrev pub rows_of : {X : Type 0} → List (ℕ × X) → List X
rows_of rows = map (λ e. e.1) rows

-- the numbers of the rows
abbrev pub numbers_of : {X : Type 0} → List (ℕ × X) → List ℕ
numbers_of rows = map (λ e. e.0) rows

-- what is found of the rows that a test does not keep: one of them, or that there is none
abbrev pub EndsOne : {X : Type 0} → (X → ℕ) → (X → Bool) → Option ℕ → List X → Type 0
EndsOne number keeps None rows = filter keeps rows ≡ rows
EndsOne number keeps (Some n) rows = (filter keeps (filter (λ x. not (number x == n)) rows) ≡ filter keeps rows) × (length (filter (λ x. not (number x == n)) rows) < length rows)

-- rows under numbers that follow one another
abbrev pub from_number : {X : Type 0} → ℕ → List X → List (ℕ × X)
from_number n [] = []
from_number n (x ∷ xs) = (n, x) ∷ from_number (n + 1) xs

-- a number from `first` on, and below `end`
abbrev pub is_between : ℕ → ℕ → ℕ → Bool
is_between first end n = not (nat_lt n first) && nat_lt n end

-- no row has one of these numbers
abbrev pub AreFree : {X : Type 0} → ℕ → ℕ → List (ℕ × X) → Type 0
AreFree first end rows = AllByRecursion (λ e. is_between first end e.0 ≡ false) rows

-- the row of a number, if there is a number
abbrev pub row_named : {X : Type 0} → Option ℕ → List (ℕ × X) → Option X
row_named None rows = None
row_named (Some n) rows = row_at n rows
