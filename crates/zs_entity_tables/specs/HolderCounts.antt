-- How many hold each number, as a map counts them. A number that nobody holds any more is counted on, with 0.
use Rattle.std.specs.Prelude.{ℕ, Bool, nat_lt, List, map, filter}
use Rattle.zs_entity_tables.specs.declared.declared_key.KeyHolders.{KeyHolders}

-- how many hold each number, and how many more numbers there is room for
pub record HolderCounts : Type 0 where
  pub rows : List KeyHolders
  pub room : ℕ

-- a number with its count
abbrev pub entry_row : ℕ × ℕ → KeyHolders
entry_row entry = record { number = entry.0; count = entry.1 }

-- whether anyone holds the number of a row
abbrev pub is_counted : KeyHolders → Bool
is_counted row = nat_lt 0 row.count

-- the rows of the numbers that are held
abbrev pub held_rows : List (ℕ × ℕ) → List KeyHolders
held_rows entries = filter is_counted (map entry_row entries)
