-- Laws of the definitions, by which a reader may check them.
use Rattle.std.specs.Prelude.{◌≡◌, ℕ, List, IsTrue, chars, map}
use Rattle.std.specs.List.{list_all}
use Rattle.zs_keys.specs.Text.{chunks, is_chunk, is_canonical}
use Rattle.zs_keys.specs.Matching.{intersects, includes}
use Rattle.zs_keys.specs.Canonize.{canonized_chunk, canonize}
use Rattle.zs_keys.specs.Key.{join_text}

-- two key expressions have a key in common, or not, from either side
abbrev pub MeetBothWays : List ℕ → List ℕ → Type 0
MeetBothWays left right = intersects left right ≡ intersects right left

-- a canonical text is its own canonical form
abbrev pub IsOwnForm : List ℕ → Type 0
IsOwnForm text = IsTrue (is_canonical text) → canonize text ≡ text

-- two canonical texts with a `/` between them have a canonical form
abbrev pub JoinsToCanonical : List ℕ → List ℕ → Type 0
JoinsToCanonical text suffix =
    IsTrue (is_canonical text) → IsTrue (is_canonical suffix) → IsTrue (is_canonical (join_text text suffix))

-- a key expression that includes another one has a key in common with it
abbrev pub MeetsWhatItIncludes : List ℕ → List ℕ → Type 0
MeetsWhatItIncludes left right = IsTrue (includes left right) → IsTrue (intersects left right)

-- the canonical form of a text is its own
abbrev pub IsFormOnce : List ℕ → Type 0
IsFormOnce text = canonize (canonize text) ≡ canonize text

-- the canonical form of a text is canonical exactly where each of its chunks may stand in a canonical text
abbrev pub HasFormWhere : List ℕ → Type 0
HasFormWhere text = is_canonical (canonize text) ≡ list_all is_chunk (map canonized_chunk (chunks text))

-- matching and inclusion are those of the characters of two texts, although they are defined over bytes
abbrev pub IsByCharacters : List ℕ → List ℕ → Type 0
IsByCharacters left right =
    (intersects (chars left) (chars right) ≡ intersects left right) × (includes (chars left) (chars right) ≡ includes left right)

-- so is the test of canonical texts
abbrev pub IsCanonicalByCharacters : List ℕ → Type 0
IsCanonicalByCharacters text = is_canonical (chars text) ≡ is_canonical text
