-- How bytes are cut into lines, and lines into fields.
use Rattle.std.specs.Prelude.{ℕ, ◌==◌, List, [], ◌∷◌, if◌then◌else◌}
use Rattle.std.specs.List.{slice_split}

-- the byte in front of a line's rest
abbrev pub onto_line : ℕ → List (List ℕ) → List (List ℕ)
onto_line b [] = (b ∷ []) ∷ []
onto_line b (line ∷ more) = (b ∷ line) ∷ more

-- the bytes cut at each line feed; a last rest that is not empty is a line
abbrev pub lines : List ℕ → List (List ℕ)
lines [] = []
lines (b ∷ bs) = if b == 10 then [] ∷ lines bs else onto_line b (lines bs)

-- a line cut at each tab
abbrev pub fields : List ℕ → List (List ℕ)
fields line = slice_split (λ b. b == 9) line
