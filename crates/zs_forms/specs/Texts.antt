-- Texts that are given as bytes.
use Rattle.std.specs.Prelude.{ℕ, if◌then◌else◌, List, [], ◌∷◌, Option, None, Some}
use Rattle.std.specs.Str.{is_utf8, chars}

-- the text that bytes are, where they are UTF-8
abbrev pub text_in : List ℕ → Option (List ℕ)
text_in bytes = if is_utf8 bytes then Some (chars bytes) else None

-- the encoding that bytes name: none where there are no bytes
abbrev pub named : Option (List ℕ) → Option (Option (List ℕ))
named (Some text) = Some (Some text)
named None = None

abbrev pub encoding_in : List ℕ → Option (Option (List ℕ))
encoding_in [] = Some None
encoding_in (byte ∷ bytes) = named (text_in (byte ∷ bytes))
