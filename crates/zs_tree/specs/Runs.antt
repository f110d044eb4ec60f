-- Runs of entries that a look-up hands out or leaves out at once.
use Rattle.std.specs.Prelude.{◌≡◌, ℕ, Bool, true, false, ◌&&◌, List, [], ◌∷◌, length, take, drop, bytes_eq}
use Rattle.std.specs.Ordering.{is_lt, is_gt}
use Rattle.zs_keys.specs.Matching.{meets, is_free, chunk_meets}
use Rattle.zs_keys.specs.Text.{is_double_star}
use Rattle.zs_tree.specs.declared.entry.Entry.{Entry}
use Rattle.zs_tree.specs.declared.runs.Bound.{Bound}
use Rattle.zs_tree.specs.declared.runs.Bound.TheVariants.{Open, Below, Closed}
use Rattle.zs_tree.specs.Code.{code_cmp, onto_chunk}

abbrev pub is_nil : List ℕ → Bool
is_nil [] = true
is_nil (x ∷ xs) = false

-- any code, one that comes before a plain chunk, or none
abbrev pub within : Bound → List ℕ → Bool
within Open rest = true
within (Below chunk) rest = is_lt (code_cmp rest (onto_chunk 2 chunk.now []))
within Closed rest = is_nil rest

-- a code begins with a path, and what follows lies within a bound
abbrev pub lies : List ℕ → Bound → List ℕ → Bool
lies path bound code = bytes_eq (take (length path) code) path && within bound (drop (length path) code)

-- the first entry lies there
abbrev pub BeginsWithin : List ℕ → Bound → List Entry → Type 0
BeginsWithin path bound [] = ⊥
BeginsWithin path bound (e ∷ es) = lies path bound e.code.items ≡ true
