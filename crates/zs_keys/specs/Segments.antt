-- Verbatim chunks cut a list of chunks: words of the search, which no public contract needs.
use Rattle.std.specs.Prelude.{ℕ, Bool, List, [], ◌∷◌, if◌then◌else◌}
use Rattle.zs_keys.specs.Matching.{is_free}
use Rattle.zs_keys.specs.Chunks.{chunks_left}
use Rattle.zs_keys.specs.declared.segment.Segment.{Segment}

-- the elements before the first that is not free
abbrev pub front : {X : Type 0} → (X → Bool) → List X → List X
front free [] = []
front free (x ∷ xs) = if free x then x ∷ front free xs else []

-- that element and all behind it
abbrev pub behind : {X : Type 0} → (X → Bool) → List X → List X
behind free [] = []
behind free (x ∷ xs) = if free x then behind free xs else x ∷ xs

-- the chunks that a segment has left: up to the next verbatim one
abbrev pub segment_left : Segment → List (List ℕ)
segment_left s = front is_free (chunks_left s.chunks)
