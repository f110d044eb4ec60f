-- What a write of a whole piece leaves where it fails.
use Rattle.std.specs.Prelude.{ℕ, List, ◌≡◌, ◌++◌, Option}
use Rattle.zs_keys.specs.Stream.{PutsOn}

-- a front of the piece was put on, and the rest was not
abbrev pub PutsFrontOn : Option (List ℕ) → List ℕ → Option (List ℕ) → Type 0
PutsFrontOn old piece new = (front : List ℕ) × (rest : List ℕ) × (piece ≡ front ++ rest) × PutsOn old front new
