-- The part of a key expression before its first wild chunk.
use Rattle.std.specs.Prelude.{ℕ, List, [], ◌∷◌, Option, Some, None, ◌==◌, if◌then◌else◌}
use Rattle.std.specs.List.{list_any, before_first}

abbrev pub onto_front : ℕ → Option (List ℕ) → Option (List ℕ)
onto_front byte (Some front) = Some (byte ∷ front)
onto_front byte None = if byte == 0x2f then Some [] else None

-- what stands before the last `/`, if there is one
unfoldable pub before_slash : List ℕ → Option (List ℕ)
before_slash [] = None
before_slash (byte ∷ bytes) = onto_front byte (before_slash bytes)

-- without a `*` the whole text, else what stands before the last `/` before the first `*`, if there is such a `/`
abbrev pub nonwild_prefix : List ℕ → Option (List ℕ)
nonwild_prefix text =
    if list_any (λ byte. byte == 0x2a) text then before_slash (before_first (λ byte. byte == 0x2a) text) else Some text
