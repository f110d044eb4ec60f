-- How the table of listeners finds them: words that no public contract needs.
use Rattle.std.specs.Prelude.{◌≡◌, ℕ, nat_lt, Bool, false, ◌||◌, ◌==◌, List, [], ◌∷◌, ◌++◌, Option, Some, None, if◌then◌else◌}
use Rattle.std.specs.List.{find, flat_map}
use Rattle.zs_keys.specs.Matching.{intersects}
use Rattle.zs_rows.specs.Index.{is_marked}
use Rattle.zs_rows.specs.declared.mark.Mark.{Mark}
use Rattle.zs_tables.specs.declared.listener.ListenerRow.{ListenerRow}
use Rattle.zs_tables.specs.declared.recount.Recount.{Recount}
use Rattle.zs_tables.specs.Matching.{Candidate, Listener, is_moved, recount_of}

-- whether a listener, if there is one, listens to that publisher or querier
abbrev pub is_of : ℕ → Option Listener → Bool
is_of parent None = false
is_of parent (Some l) = l.row.parent == parent

-- the index has the number of each listener under that of its publisher or querier, and no other
abbrev pub AreIndexed : List Listener → List Mark → Type 0
AreIndexed ls marks = (parent id : ℕ) → is_marked parent id marks ≡ is_of parent (find (λ l. l.row.id == id) ls)

-- whether a candidate's key has a key in common with that of a listener, if there is such a candidate
abbrev pub meets_if : Option Candidate → ListenerRow → Bool
meets_if None row = false
meets_if (Some c) row = intersects c.text row.key.text

-- whether one of two does
abbrev pub meets_one : Option Candidate → Option Candidate → ListenerRow → Bool
meets_one goes comes row = meets_if goes row || meets_if comes row

-- two ascending lists in one; a number of both is there once
abbrev pub merged : List ℕ → List ℕ → List ℕ
merged [] right = right
merged (x ∷ left) [] = x ∷ merged left []
merged (x ∷ left) (y ∷ right) =
    if nat_lt x y then x ∷ merged left (y ∷ right)
    else if nat_lt y x then y ∷ merged (x ∷ left) right
    else x ∷ merged left right

-- what becomes of the count of a listener, if there is one and its count changes
abbrev pub recount_in : Option Candidate → Option Candidate → Option Listener → Option Recount
recount_in goes comes None = None
recount_in goes comes (Some l) = if is_moved goes comes l then Some (recount_of goes comes l) else None

-- the element that there is, if there is one
abbrev pub listed : {X : Type 0} → Option X → List X
listed None = []
listed (Some x) = x ∷ []

-- what becomes of the counts of the listeners of these numbers
abbrev pub recounts_at : Option Candidate → Option Candidate → List Listener → List ℕ → List Recount
recounts_at goes comes ls ids = flat_map (λ id. listed (recount_in goes comes (find (λ l. l.row.id == id) ls))) ids
