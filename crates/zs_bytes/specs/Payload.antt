-- What the bytes of a payload are, which contracts see as the list of its slices.
use Rattle.std.specs.Prelude.{ℕ, ◌==◌, if◌then◌else◌, List, [], ◌∷◌, length}
use Rattle.std.specs.List.{concat}

-- the bytes of the slices, one slice behind the other
abbrev pub bytes_of : List (List ℕ) → List ℕ
bytes_of slices = concat slices

-- bytes as slices: one where there is a byte
abbrev pub one_slice : List ℕ → List (List ℕ)
one_slice bytes = if length bytes == 0 then [] else bytes ∷ []
