-- The canonical form of a text.
use Rattle.std.specs.Prelude.{ℕ, List, [], ◌∷◌, ◌==◌, bytes_eq, codes, drop, map, if◌then◌else◌}
use Rattle.std.specs.List.{starts_with, join_with_byte}
use Rattle.zs_keys.specs.Text.{chunks, is_star, is_double_star}

-- of two `$*` at the front the first goes
abbrev pub without_repeat : List ℕ → List ℕ
without_repeat text = if starts_with (λ a b. a == b) text (codes "$*$*") then drop 2 text else text

-- each run of `$*` becomes one
unfoldable pub squeezed_chunk : List ℕ → List ℕ
squeezed_chunk [] = []
squeezed_chunk (byte ∷ bytes) = without_repeat (byte ∷ squeezed_chunk bytes)

-- and then a chunk that is `$*` alone becomes `*`
abbrev pub canonized_chunk : List ℕ → List ℕ
canonized_chunk chunk = if bytes_eq (squeezed_chunk chunk) (codes "$*") then codes "*" else squeezed_chunk chunk

-- a chunk `**` goes behind the `*` that follow it, and is one with a `**` that it meets there
unfoldable pub sink : List (List ℕ) → List (List ℕ)
sink [] = codes "**" ∷ []
sink (c ∷ cs) =
    if is_star c then c ∷ sink cs
    else (if is_double_star c then c ∷ cs else codes "**" ∷ (c ∷ cs))

-- so each run of `*` and `**` that has a `**` ends with its only one
unfoldable pub ordered_chunks : List (List ℕ) → List (List ℕ)
ordered_chunks [] = []
ordered_chunks (c ∷ cs) = if is_double_star c then sink (ordered_chunks cs) else c ∷ ordered_chunks cs

-- the canonical form of a text; it is canonical where the text has no other fault
abbrev pub canonize : List ℕ → List ℕ
canonize text = join_with_byte 0x2f (ordered_chunks (map canonized_chunk (chunks text)))
