-- What contracts see of a tree of keys: a row for each number, in ascending order.
use Rattle.std.specs.Prelude.{ℕ, nat_lt, Bool, true, ◌&&◌, ◌==◌, List, [], ◌∷◌, Option, Some, None, map, filter, bytes_eq, if◌then◌else◌}
use Rattle.zs_keys.specs.Matching.{intersects}

-- a number with the text of its key
pub record Row : Type 0 where
  pub id : ℕ
  pub text : List ℕ

-- the rows with one more, in ascending order
abbrev pub placed : Row → List Row → List Row
placed new [] = new ∷ []
placed new (row ∷ rows) = if nat_lt new.id row.id then new ∷ row ∷ rows else row ∷ placed new rows

-- the row of that number and text
abbrev pub is_row : ℕ → List ℕ → Row → Bool
is_row id text row = row.id == id && bytes_eq row.text text

-- the numbers of the keys that have a key in common with the text
abbrev pub matches : List ℕ → List Row → List ℕ
matches text rows = map (λ row. row.id) (filter (λ row. intersects text row.text) rows)

-- whether a number is above the last one, if there was one
abbrev pub is_above : Option ℕ → ℕ → Bool
is_above None id = true
is_above (Some after) id = nat_lt after id

-- the first of the numbers that is above the last one
abbrev pub first_above : Option ℕ → List ℕ → Option ℕ
first_above after [] = None
first_above after (id ∷ ids) = if is_above after id then Some id else first_above after ids
