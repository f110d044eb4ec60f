-- Rows of a table, each with a number and a key, and the tree of their keys.
use Rattle.std.specs.Prelude.{◌≡◌, ◌==◌, ◌&&◌, ℕ, Bool, true, not, List, map, filter, Option, Some, None, bytes_eq, if◌then◌else◌}
use Rattle.std.specs.List.{list_any}
use Rattle.zs_keys.specs.Matching.{intersects}
use Rattle.zs_rows.specs.Rows.{AreNumbered, rows_of}
use Rattle.zs_tree.specs.Rows.{Row, placed, is_row}
use Rattle.zs_keyed.specs.Ascending.{Ascend}

-- a row of the tree of keys
abbrev pub keyed_by : {R : Type 0} → (R → ℕ) → (R → List ℕ) → R → Row
keyed_by number text row = record { id = number row; text = text row }

-- the rows stand ascending under their numbers, and the tree has their keys
pub record AreKeyed {R : Type 0} (number : R → ℕ) (text : R → List ℕ) (rows : List (ℕ × R)) (tree : List Row) : Type 0 where
  pub ascending : Ascend (λ e. e.0) rows
  pub numbered : AreNumbered number rows
  pub tree_is : tree ≡ map (keyed_by number text) (rows_of rows)

-- the numbers of the rows whose key has a key in common with a text
abbrev pub meeting : {R : Type 0} → (R → ℕ) → (R → List ℕ) → List ℕ → List R → List ℕ
meeting number text asked rows = map number (filter (λ row. intersects asked (text row)) rows)

-- the tree with the key of a row, if there is one
abbrev pub with_key : {R : Type 0} → (R → List ℕ) → ℕ → Option R → List Row → List Row
with_key text number None tree = tree
with_key text number (Some row) tree = placed (record { id = number; text = text row }) tree

-- the key of a row, if there is one, stands in the tree
abbrev pub IsInTree : {R : Type 0} → (R → List ℕ) → ℕ → Option R → List Row → Type 0
IsInTree text number None tree = Unit {0}
IsInTree text number (Some row) tree = list_any (is_row number (text row)) tree ≡ true

-- the tree with the key of another row in the place of that of a row, if there is one
abbrev pub with_other_key : {R : Type 0} → (R → List ℕ) → ℕ → Option R → R → List Row → List Row
with_other_key text number None new tree = tree
with_other_key text number (Some old) new tree =
    if bytes_eq (text old) (text new) then tree
    else placed (record { id = number; text = text new }) (filter (λ row. not (is_row number (text old) row)) tree)

-- whether the row of that number passes a test
abbrev pub passes_by : {R : Type 0} → (R → ℕ) → (R → Bool) → List R → ℕ → Bool
passes_by number test rows n = list_any (λ row. number row == n && test row) rows
