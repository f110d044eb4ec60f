-- The names in a group, and the keys that stand for them.
use Rattle.std.specs.Prelude.{ℕ, Bool, not, ◌==◌, ◌&&◌, ◌||◌, nat_le, List, [], ◌∷◌, length, Option, None, Some, codes, if◌then◌else◌}
use Rattle.std.specs.List.{list_all}
use Rattle.std.specs.Option.{option_and_then}

-- a small letter or a digit
abbrev pub is_name_byte : ℕ → Bool
is_name_byte b = (nat_le 97 b && nat_le b 122) || (nat_le 48 b && nat_le b 57)

-- a name has 1 to 64 of them
abbrev pub is_name : List ℕ → Bool
is_name text = not (length text == 0) && (nat_le (length text) 64 && list_all is_name_byte text)

abbrev pub if_name : List ℕ → Option (List ℕ)
if_name text = if is_name text then Some text else None

-- what stands behind a front
abbrev pub behind : List ℕ → List ℕ → Option (List ℕ)
behind [] text = Some text
behind (p ∷ ps) [] = None
behind (p ∷ ps) (b ∷ bs) = if p == b then behind ps bs else None

-- the name that a key stands for
abbrev pub name_in : List ℕ → Option (List ℕ)
name_in key = option_and_then if_name (behind (codes "group/") key)
