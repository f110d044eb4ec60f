-- The texts of key expressions, as the bytes of their UTF-8.
--
-- All signs of the language (`/`, `*`, `$`, `#`, `?`, `@`) are ASCII, and no byte of a longer character is below 128.
-- So a text has the same chunks and signs whether it is read by bytes or by characters. A `$*` may stop inside a
-- character of the other text; but what follows it begins a character, and a byte that begins one never equals
-- a byte inside one. So matching has the same answer too. The laws `IsByCharacters` and
-- `IsCanonicalByCharacters` of `Laws` say so.
use Rattle.std.specs.Prelude.{ℕ, Bool, true, false, not, ◌&&◌, ◌||◌, List, [], ◌∷◌, ◌==◌, bytes_eq, codes, if◌then◌else◌}
use Rattle.std.specs.List.{slice_split, list_all}

-- the pieces of a text between its `/`
abbrev pub chunks : List ℕ → List (List ℕ)
chunks text = slice_split (λ byte. byte == 0x2f) text

-- the chunk `*`, which stands for any one chunk that is not verbatim
abbrev pub is_star : List ℕ → Bool
is_star chunk = bytes_eq chunk (codes "*")

-- the chunk `**`, which stands for any number of chunks that are not verbatim
abbrev pub is_double_star : List ℕ → Bool
is_double_star chunk = bytes_eq chunk (codes "**")

-- a chunk that begins with `@` is verbatim: no wild sign stands for it
abbrev pub is_verbatim : List ℕ → Bool
is_verbatim [] = false
is_verbatim (byte ∷ bytes) = byte == 0x40

-- byte b may stand behind a in a chunk that is neither `*` nor `**`: `*` behind `$` alone and nothing else there, no
-- `$` behind a `*`, and no `#` or `?`
abbrev pub may_follow : ℕ → ℕ → Bool
may_follow a b =
    if a == 0x24 then b == 0x2a
    else (not (b == 0x2a) && not (a == 0x2a && b == 0x24) && not (b == 0x23) && not (b == 0x3f))

-- these bytes may stand behind a, up to the end of the chunk, which is not a `$`
abbrev pub may_run : ℕ → List ℕ → Bool
may_run a [] = not (a == 0x24)
may_run a (b ∷ bs) = may_follow a b && may_run b bs

-- a chunk of a canonical text: `*`, `**`, or not empty, not `$*` alone, and each sign in its place
abbrev pub is_chunk : List ℕ → Bool
is_chunk [] = false
is_chunk (b ∷ bs) =
    is_star (b ∷ bs) || is_double_star (b ∷ bs) || (not (bytes_eq (b ∷ bs) (codes "$*")) && may_run 0x2f (b ∷ bs))

-- no chunk `**` is followed by a chunk `**` or `*`
abbrev pub has_ordered_stars : List (List ℕ) → Bool
has_ordered_stars [] = true
has_ordered_stars (c ∷ []) = true
has_ordered_stars (c ∷ d ∷ cs) = not (is_double_star c && (is_double_star d || is_star d)) && has_ordered_stars (d ∷ cs)

-- a text that may stand in a key expression
abbrev pub is_canonical : List ℕ → Bool
is_canonical text = list_all is_chunk (chunks text) && has_ordered_stars (chunks text)
