-- Declared numbers, each with the key that it stands for.
use Rattle.std.specs.Prelude.{ℕ, ◌==◌, nat_lt, not, List, [], ◌∷◌, Option, Some, None, bytes_eq, filter, if◌then◌else◌}
use Rattle.zs_keys.specs.Key.{Key}

-- a number with the key that it stands for
pub record NumberedKey : Type 0 where
  pub number : ℕ
  pub key : Key

-- the key that a number stands for, if it stands for one
abbrev pub key_at : ℕ → List NumberedKey → Option Key
key_at number [] = None
key_at number (row ∷ rows) = if row.number == number then Some row.key else key_at number rows

-- the least number that stands for a text, if there is one
abbrev pub number_at : List ℕ → List NumberedKey → Option ℕ
number_at text [] = None
number_at text (row ∷ rows) = if bytes_eq row.key.text text then Some row.number else number_at text rows

-- the numbers with one more, in ascending order; one that was there stands for the new key
abbrev pub placed : NumberedKey → List NumberedKey → List NumberedKey
placed new [] = new ∷ []
placed new (row ∷ rows) =
    if row.number == new.number then new ∷ rows
    else if nat_lt new.number row.number then new ∷ row ∷ rows
    else row ∷ placed new rows

-- the numbers without one
abbrev pub without : ℕ → List NumberedKey → List NumberedKey
without number rows = filter (λ row. not (row.number == number)) rows
