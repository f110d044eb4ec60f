-- Lists in ascending order, with one more element.
use Rattle.std.specs.Prelude.{ℕ, ◌==◌, nat_lt, List, [], ◌∷◌, if◌then◌else◌}
use Rattle.std.specs.List.{list_any}
pub use Rattle.zs_rows.specs.Ascending.{Ascend, IsPlaceOf}

-- the elements with one more, in ascending order; it takes the place of one with its number
abbrev pub placed_by : {X : Type 0} → (X → ℕ) → X → List X → List X
placed_by number new [] = new ∷ []
placed_by number new (x ∷ xs) =
    if number x == number new then new ∷ xs
    else if nat_lt (number new) (number x) then new ∷ x ∷ xs
    else x ∷ placed_by number new xs

-- with one more, in ascending order, unless one with its number is there
abbrev pub put_new : {X : Type 0} → (X → ℕ) → X → List X → List X
put_new number new xs = if list_any (λ x. number x == number new) xs then xs else placed_by number new xs
