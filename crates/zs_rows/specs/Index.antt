-- An index: which numbers stand under which key.
use Rattle.std.specs.Prelude.{◌≡◌, ℕ, ◌==◌, ◌&&◌, ◌||◌, nat_le, Bool, false, not, List, filter, map, Option, Some, None}
use Rattle.std.specs.List.{list_any}
use Rattle.zs_rows.specs.declared.mark.Mark.{Mark}
use Rattle.zs_rows.specs.Rows.{row_at, is_between}

-- whether a mark is that number's under that key
abbrev pub is_mark : ℕ → ℕ → Mark → Bool
is_mark key number m = (m.key == key) && (m.number == number)

-- whether the number stands under the key
abbrev pub is_marked : ℕ → ℕ → List Mark → Bool
is_marked key number marks = list_any (is_mark key number) marks

-- whether a key is the one that is named
abbrev pub names : ℕ → Option ℕ → Bool
names key None = false
names key (Some named) = named == key

-- the numbers under a key
abbrev pub under : ℕ → List Mark → List ℕ
under key marks = map (λ m. m.number) (filter (λ m. m.key == key) marks)

-- whether the number stands under a key up to that one
abbrev pub is_marked_up_to : ℕ → ℕ → List Mark → Bool
is_marked_up_to end number marks = list_any (λ m. nat_le m.key end && (m.number == number)) marks

-- the number has come to stand under the key, if there is one, and all else is as it was
abbrev pub Notes : Option ℕ → ℕ → List Mark → List Mark → Type 0
Notes key number before after = (k n : ℕ) → is_marked k n after ≡ ((names k key && (n == number)) || is_marked k n before)

-- the number stands under the key no longer, and all else is as it was
abbrev pub Forgets : Option ℕ → ℕ → List Mark → List Mark → Type 0
Forgets key number before after = (k n : ℕ) → is_marked k n after ≡ (not (names k key && (n == number)) && is_marked k n before)

-- whether a row, if there is one, names the key
abbrev pub row_names : {X : Type 0} → (X → Option ℕ) → ℕ → Option X → Bool
row_names key_of key None = false
row_names key_of key (Some x) = names key (key_of x)

-- the index has each row's number under the key that the row names, and no other
abbrev pub IsIndexOf : {X : Type 0} → (X → Option ℕ) → List (ℕ × X) → List Mark → Type 0
IsIndexOf key_of rows marks = (k n : ℕ) → is_marked k n marks ≡ row_names key_of k (row_at n rows)

-- an index with the same marks
abbrev pub IsSame : List Mark → List Mark → Type 0
IsSame before after = (k n : ℕ) → is_marked k n after ≡ is_marked k n before

-- the numbers from `first` on and below `end` have come to stand under the key, and all else is as it was
abbrev pub NotesFrom : ℕ → ℕ → ℕ → List Mark → List Mark → Type 0
NotesFrom key first end before after = (k n : ℕ) → is_marked k n after ≡ ((names k (Some key) && is_between first end n) || is_marked k n before)

-- they stand under it no longer, and all else is as it was
abbrev pub ForgetsFrom : ℕ → ℕ → ℕ → List Mark → List Mark → Type 0
ForgetsFrom key first end before after = (k n : ℕ) → is_marked k n after ≡ (not (names k (Some key) && is_between first end n) && is_marked k n before)
