-- Texts without a wild sign.
use Rattle.std.specs.Prelude.{ℕ, Bool, not, ◌&&◌, ◌==◌, List, [], ◌∷◌}
use Rattle.std.specs.List.{list_all}

-- neither `*` nor `$`
abbrev pub is_plain_byte : ℕ → Bool
is_plain_byte byte = not (byte == 0x2a) && not (byte == 0x24)

-- a text that stands for one key alone
abbrev pub is_plain : List ℕ → Bool
is_plain text = list_all is_plain_byte text

-- neither `#` nor `?`, which no canonical text has
abbrev pub is_sound_byte : ℕ → Bool
is_sound_byte byte = not (byte == 0x23) && not (byte == 0x3f)

-- byte b may stand behind a in a canonical text without a wild sign: a word of a test, which no public contract needs
abbrev pub may_stand : ℕ → ℕ → Bool
may_stand a b = not (b == 0x2f && a == 0x2f) && (is_plain_byte b && is_sound_byte b)

-- so may these bytes behind a, up to the end of the text, which is not a `/`
abbrev pub stands_on : ℕ → List ℕ → Bool
stands_on a [] = not (a == 0x2f)
stands_on a (b ∷ bs) = may_stand a b && stands_on b bs
