-- Laws of the definitions, by which a reader may check them.
use Rattle.std.specs.Prelude.{◌≡◌, ◌≤◌, ◌==◌, ℕ, zero, suc, Bool, false, ◌&&◌, List, [], length, Option, Some, None, MatchOption, IsTrue}
use Rattle.std.specs.List.{list_any, AllByRecursion}
use Rattle.zs_subscriptions.specs.declared.subscriber.SubRow.{SubRow}
use Rattle.zs_subscriptions.specs.Ascending.{Ascend}
use Rattle.zs_subscriptions.specs.Recipients.{matches, receives, recipients, is_behind, next_recipient, onward, GoesOn}

-- a subscriber behind the last one that receives the publication
abbrev pub is_next : Bool → List ℕ → Option ℕ → SubRow → Bool
is_next local text after row = is_behind after row.id && receives local text row

-- the next recipient is one of those behind the last one, and the least of them; there is none where none is behind
abbrev pub NextIsLeast : Type 0
NextIsLeast =
    (local : Bool) (text : List ℕ) (after : Option ℕ) (rows : List SubRow) → Ascend (λ row. row.id) rows
    → MatchOption (next_recipient local text after rows)
    (AllByRecursion (λ row. is_next local text after row ≡ false) rows)
    (λ id. IsTrue (list_any (λ row. row.id == id && is_next local text after row) rows)
    × AllByRecursion (λ row. IsTrue (is_next local text after row) → id ≤ row.id) rows)

-- what a walk has left is the next recipient, and what it has left behind that one
abbrev pub EachIsNext : Type 0
EachIsNext =
    (local : Bool) (text : List ℕ) (after : Option ℕ) (rows : List SubRow) → Ascend (λ row. row.id) rows
    → GoesOn local text after rows (next_recipient local text after rows)

-- the ids that a walk of so many steps visits behind the last one
abbrev pub visited : (Option ℕ → Option ℕ) → ℕ → Option ℕ → List ℕ
visited next zero after = []
visited next (suc steps) after = onward (λ id. visited next steps (Some id)) (next after)

-- a walk from each recipient to the next visits them all in their order, and no others
abbrev pub WalkVisitsAll : Type 0
WalkVisitsAll =
    (local : Bool) (text : List ℕ) (rows : List SubRow) → Ascend (λ row. row.id) rows
    → visited (λ after. next_recipient local text after rows) (length rows) None ≡ recipients local text rows

-- the list of a number ascends, and so no subscriber is there twice
abbrev pub MatchesAscend : Type 0
MatchesAscend = (text : List ℕ) (rows : List SubRow) → Ascend (λ row. row.id) rows → Ascend (λ id. id) (matches text rows)
