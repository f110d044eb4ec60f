-- Words of the search, which no public contract needs: what a walk along two lists in step tells of them.
use Rattle.std.specs.Prelude.{◌≡◌, ◌≤◌, Bool, true, false, List, [], ◌∷◌, length, if◌then◌else◌}
use Rattle.std.specs.List.{list_any}
use Rattle.zs_keys.specs.Matching.{meets, some_rest}
use Rattle.zs_keys.specs.declared.pattern.Walk.{Walk}
use Rattle.zs_keys.specs.declared.pattern.Walk.TheVariants.{Ended, Differ, LeftWild, RightWild}

-- two lists of which each element is free match
abbrev pub meets_free : {X : Type 0} → (X → Bool) → (X → Bool) → (X → X → Bool) → List X → List X → Bool
meets_free wild wild' same p q = meets wild wild' (λ _. true) same p q

-- the left list, with a wild element before it, matches the right one
abbrev pub meets_behind : {X : Type 0} → (X → Bool) → (X → Bool) → (X → X → Bool) → List X → List X → Bool
meets_behind wild wild' same p q = some_rest (λ _. true) (meets_free wild wild' same p) q

-- what stands behind the last wild element, or all where there is none
abbrev pub last_piece : {X : Type 0} → (X → Bool) → List X → List X
last_piece wild [] = []
last_piece wild (x ∷ xs) = if list_any wild xs then last_piece wild xs else (if wild x then xs else x ∷ xs)

-- p1 and q1 are what a walk in step has left of p and q
pub record Onto {X : Type 0} (wild wild' : X → Bool) (same : X → X → Bool) (p q p1 q1 : List X) : Type 0 where
  pub answer : meets_free wild wild' same p q ≡ meets_free wild wild' same p1 q1
  pub later : list_any wild' q ≡ false → meets_behind wild wild' same p q ≡ true → meets_behind wild wild' same p1 q1 ≡ true
  pub wilds : list_any wild' q ≡ list_any wild' q1
  pub left : length p1 ≤ length p
  pub right : length q1 ≤ length q

-- what the end of a walk tells of the lists p and q that it began with
abbrev pub Tells : {X C : Type 0} → (C → List X) → (X → Bool) → (X → Bool) → (X → X → Bool) → List X → List X → Walk C → Type 0
Tells {X} elements wild wild' same p q Ended = meets_free wild wild' same p q ≡ true
Tells {X} elements wild wild' same p q Differ = meets_free wild wild' same p q ≡ false
Tells {X} elements wild wild' same p q (LeftWild left right) =
    (x : X) × (wild x ≡ true) × Onto wild wild' same p q (x ∷ elements left) (elements right)
Tells {X} elements wild wild' same p q (RightWild left right) =
    (y : X) × (wild' y ≡ true) × Onto wild wild' same p q (elements left) (y ∷ elements right)
