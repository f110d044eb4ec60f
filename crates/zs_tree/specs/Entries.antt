-- The entries of a tree, as it keeps them: in the order of their codes, and of their numbers where the codes are equal.
use Rattle.std.specs.Prelude.{◌≡◌, ◌≢◌, ◌<◌, ◌++◌, ℕ, Bool, false, List, [], ◌∷◌, length, map, filter, string_bytes, Result, MatchResult, ◌≤◌, Option, Some, None, min}
use Rattle.std.specs.List.{AllByRecursion, AllWithin, HoldsAt}
use Rattle.std.specs.Ordering.{nat_cmp, is_gt, ordering_then}
use Rattle.std.specs.declared.cmp.Ordering.{Ordering}
use Rattle.std.specs.declared.cmp.Ordering.TheVariants.{Less, Equal, Greater}
use Rattle.zs_keys.specs.Matching.{intersects}
use Rattle.zs_tree.specs.declared.entry.Entry.{Entry}
use Rattle.zs_tree.specs.Code.{code_cmp}
use Rattle.zs_tree.specs.Rows.{Row, placed}

-- what contracts see of an entry
abbrev pub row_of : Entry → Row
row_of e = record { id = e.id; text = string_bytes e.text }

-- the rows in ascending order of their numbers
abbrev pub by_number : List Row → List Row
by_number [] = []
by_number (row ∷ rows) = placed row (by_number rows)

-- an entry beside a code and a number
abbrev pub entry_cmp : List ℕ → ℕ → Entry → Ordering
entry_cmp code id e = ordering_then (code_cmp e.code.items code) (nat_cmp e.id id)

-- an entry does not stand behind another one
abbrev pub IsUpTo : Entry → Entry → Type 0
IsUpTo e f = is_gt (entry_cmp f.code.items f.id e) ≡ false

-- each entry stands before all that follow it
abbrev pub AreInOrder : List Entry → Type 0
AreInOrder [] = Unit {0}
AreInOrder (e ∷ es) = AllByRecursion (IsUpTo e) es × AreInOrder es

-- no two entries have one number
abbrev pub AreApart : List Entry → Type 0
AreApart [] = Unit {0}
AreApart (e ∷ es) = AllByRecursion (λ later. later.id ≢ e.id) es × AreApart es

-- whether the key of an entry has a key in common with a text
abbrev pub hits : List ℕ → Entry → Bool
hits text e = intersects text (string_bytes e.text)

-- the numbers ascend
abbrev pub AllAscend : List Entry → Type 0
AllAscend [] = Unit {0}
AllAscend (e ∷ es) = AllByRecursion (λ later. e.id ≤ later.id) es × AllAscend es

-- a run of entries that all hit, in ascending number, and those behind it, among which all other hits are
pub record IsNextRun (text : List ℕ) (entries run behind : List Entry) : Type 0 where
  pub found : filter (hits text) entries ≡ run ++ filter (hits text) behind
  pub ascending : AllAscend run
  pub order : AreInOrder behind
  pub fewer : length behind < length entries

-- the entry at that place has the code and the number, or it would go to that place
abbrev pub IsPlaceOf : List ℕ → ℕ → List Entry → Result ℕ ℕ → Type 0
IsPlaceOf code id entries place =
    MatchResult place (λ at. (at < length entries) × HoldsAt (λ e. entry_cmp code id e ≡ Equal) entries at)
    (λ at. (at ≤ length entries) × AllWithin (λ e. entry_cmp code id e ≡ Less) entries 0 at
    × AllWithin (λ e. entry_cmp code id e ≡ Greater) entries at (length entries))

-- the numbers of the entries that hit, in the order of the entries
abbrev pub hit_ids : List ℕ → List Entry → List ℕ
hit_ids text entries = map (λ e. e.id) (filter (hits text) entries)

-- the lesser of two numbers, of those that there are
abbrev pub lesser : Option ℕ → Option ℕ → Option ℕ
lesser None right = right
lesser (Some left) None = Some left
lesser (Some left) (Some right) = Some (min left right)
