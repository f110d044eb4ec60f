-- What the list of slices inside a payload stands for.
use Rattle.std.specs.Prelude.{ℕ, List, [], ◌∷◌}
use Rattle.zs_bytes.specs.declared.slices.Slices.{Slices}
use Rattle.zs_bytes.specs.declared.slices.Slices.TheVariants.{Nothing, One, Many}

-- the slices, in order
abbrev pub slices_of : Slices → List (List ℕ)
slices_of Nothing = []
slices_of (One slice) = slice ∷ []
slices_of (Many slices) = slices.items
