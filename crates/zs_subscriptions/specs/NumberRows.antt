-- The rows of numbers, each under its own, and a walk over them: words that no public contract needs.
use Rattle.std.specs.Prelude.{◌≡◌, ◌==◌, ◌<◌, ◌++◌, ◌∷◌, [], ℕ, Bool, true, false, List, Option, Some, None, MatchOption, vec_len, vec_capacity}
use Rattle.std.specs.List.{list_any}
use Rattle.std.specs.Option.{option_map}
use Rattle.zs_keys.specs.Matching.{intersects}
use Rattle.zs_rows.specs.Rows.{row_at, is_behind, AreNumbered}
use Rattle.zs_subscriptions.specs.declared.number_row.NumberRow.{NumberRow}
use Rattle.zs_subscriptions.specs.Ascending.{Ascend}
use Rattle.zs_subscriptions.specs.Lists.{Listed}

-- the rows ascend, and each stands under its own number
pub record AreNumberRows (rows : List (ℕ × NumberRow)) : Type 0 where
  pub ascending : Ascend (λ e. e.0) rows
  pub numbered : AreNumbered (λ row. row.number) rows

-- whether a row's key has a key in common with a text
abbrev pub is_met : List ℕ → NumberRow → Bool
is_met text row = intersects row.key.text text

-- whether a row's list has an id
abbrev pub lists_id : ℕ → NumberRow → Bool
lists_id id row = list_any (λ other. other == id) row.matches.items

-- whether there is a row, and it passes a test
abbrev pub is_such : {X : Type 0} → (X → Bool) → Option X → Bool
is_such test None = false
is_such test (Some row) = test row

-- the least number above the last one, if there was one, whose row passes a test
abbrev pub IsNextSuch : {X : Type 0} → (X → Bool) → Option ℕ → List (ℕ × X) → Option ℕ → Type 0
IsNextSuch test after rows next =
    MatchOption next ((q : ℕ) → is_behind after q ≡ true → is_such test (row_at q rows) ≡ false)
    (λ n. (is_behind after n ≡ true) × (is_such test (row_at n rows) ≡ true) × ((q : ℕ) → is_behind after q ≡ true → q < n → is_such test (row_at q rows) ≡ false))

-- what is seen of the row of a number has changed by f, and no other row has changed
pub record ChangesAt {X Y : Type 0} (view : X → Y) (f : Y → Y) (n : ℕ) (old new : List (ℕ × X)) : Type 0 where
  pub here : option_map view (row_at n new) ≡ option_map f (option_map view (row_at n old))
  pub elsewhere : (q : ℕ) → (n == q) ≡ false → row_at q new ≡ row_at q old

-- the list may take one more id
abbrev pub HasRoom : NumberRow → Type 0
HasRoom row = vec_len row.matches < vec_capacity row.matches

-- the list with one more subscriber
abbrev pub joined : ℕ → Listed → Listed
joined id n = record n { matches = n.matches ++ id ∷ [] }

-- as it was
abbrev pub kept : Listed → Listed
kept n = n
