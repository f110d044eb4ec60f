-- What the walks over the rows of numbers have made of their lists.
use Rattle.std.proofs.Common.{◌≡◌, ℕ, ◌<◌, Bool, true, false, List, [], ◌∷◌, Option, Some, None, refl, sym, ap, ◌∙◌, subst, true≢false, arith}
use Rattle.std.specs.Prelude.{◌==◌, nat_lt, not, filter, All, IfSome, if◌then◌else◌}
use Rattle.std.specs.List.{list_any}
use Rattle.std.proofs.lemmas.Bool.Decides.{nat_tests}
use Rattle.std.proofs.lemmas.List.Elements.{recursion_from_All, All-from_recursion}
use Rattle.zs_keys.specs.Matching.{intersects}
use Rattle.zs_rows.specs.Rows.{row_at, rows_of, is_behind, with_row, Updates}
use Rattle.zs_rows.proofs.Ending.{number_found, ascend_with}
use Rattle.zs_rows.proofs.Numbered.{numbered_with}
use Rattle.zs_subscriptions.specs.declared.number_row.NumberRow.{NumberRow}
use Rattle.zs_subscriptions.specs.Lists.{shown, HasRoomFor, noted, forgotten}
use Rattle.zs_subscriptions.specs.NumberRows.{AreNumberRows, is_met, lists_id, is_such, IsNextSuch, ChangesAt, HasRoom, joined, kept}
use Rattle.zs_subscriptions.proofs.Stepping.{Walked, at_each, each_at}

-- a row in the place of the one of its number
pub rows_over : (n : ℕ) (w : NumberRow) (old new : List (ℕ × NumberRow)) → AreNumberRows old → w.number ≡ n → new ≡ with_row n w old → AreNumberRows new
rows_over n w old new are numbered is = subst AreNumberRows (sym is) (record {
  ascending = ascend_with n w old are.ascending;
  numbered = numbered_with (λ (row : NumberRow). row.number) n w old are.numbered numbered;
})

-- one with the number of the row that stood there
pub rows_written : (n : ℕ) (x w : NumberRow) (old new : List (ℕ × NumberRow)) → AreNumberRows old → Some x ≡ row_at n old → w.number ≡ x.number → new ≡ with_row n w old → AreNumberRows new
rows_written n x w old new are there same is = rows_over n w old new are (same ∙ number_found (λ (row : NumberRow). row.number) n x old are.numbered (sym there)) is

pub rows_same : (old new : List (ℕ × NumberRow)) → AreNumberRows old → new ≡ old → AreNumberRows new
rows_same old new are same = subst AreNumberRows (sym same) are

-- a row whose key does not meet has room enough
room_idle : (text : List ℕ) (o : Option NumberRow) → is_such (is_met text) o ≡ false → IfSome o (HasRoomFor text)
room_idle text None fails = tt
room_idle text (Some row) fails = λ met. absurd (true≢false (sym met ∙ fails))

-- one that has room has it for each text
room_for : (text : List ℕ) (o : Option NumberRow) → IfSome o HasRoom → IfSome o (HasRoomFor text)
room_for text None room = tt
room_for text (Some row) room = λ met. room

-- and one whose key meets has room
pub room_met : (text : List ℕ) (o : Option NumberRow) → is_such (is_met text) o ≡ true → IfSome o (HasRoomFor text) → IfSome o HasRoom
room_met text None met room = tt
room_met text (Some row) met room = room met

-- where there is no row, none wants room
pub room_none : (n : ℕ) (old new : List (ℕ × NumberRow)) → None ≡ row_at n old → new ≡ old → IfSome (row_at n new) HasRoom
room_none n old new none same = subst (λ (o : Option NumberRow). IfSome o HasRoom) (none ∙ ap (row_at n) (sym same)) tt

-- a row with room that was written
pub room_written : (n : ℕ) (w : NumberRow) (old new : List (ℕ × NumberRow)) → Updates n (Some w) old new → HasRoom w → IfSome (row_at n new) HasRoom
room_written n w old new updates room = subst (λ (o : Option NumberRow). IfSome o HasRoom) (sym (updates n ∙ itself)) room
  where
    itself : (if n == n then Some w else row_at n old) ≡ Some w
    itself = grind (arith, nat_tests)

-- how far making room has come
pub record Reserved (text : List ℕ) (after : Option ℕ) (rows : List (ℕ × NumberRow)) : Type 0 where
  pub room : (q : ℕ) → is_behind after q ≡ false → IfSome (row_at q rows) (HasRoomFor text)

pub reserved_none : (text : List ℕ) (rows : List (ℕ × NumberRow)) → Reserved text None rows
reserved_none text rows = record { room = λ q out. absurd (true≢false out) }

pub reserved_more : (text : List ℕ) (after : Option ℕ) (n : ℕ) (rows new : List (ℕ × NumberRow)) → Reserved text after rows → IsNextSuch (is_met text) after rows (Some n) → ChangesAt shown kept n rows new → IfSome (row_at n new) HasRoom → Reserved text (Some n) new
reserved_more text after n rows new before next changes room = record { room = λ q out. go q out (n == q) refl (is_behind after q) refl }
  where
    same : (q : ℕ) → (n == q) ≡ false → IfSome (row_at q rows) (HasRoomFor text) → IfSome (row_at q new) (HasRoomFor text)
    same q apart is = subst (λ (o : Option NumberRow). IfSome o (HasRoomFor text)) (sym (changes.elsewhere q apart)) is

    go : (q : ℕ) → nat_lt n q ≡ false → (b : Bool) → (n == q) ≡ b → (c : Bool) → is_behind after q ≡ c → IfSome (row_at q new) (HasRoomFor text)
    go q out true here c is =
        let number : n ≡ q = grind (arith, nat_tests, here) in
        subst (λ (m : ℕ). IfSome (row_at m new) (HasRoomFor text)) number (room_for text (row_at n new) room)
    go q out false apart false is = same q apart (before.room q is)
    go q out false apart true is =
        let lt : q < n = grind (arith, nat_tests, out, apart) in
        same q apart (room_idle text (row_at q rows) (next.2 q is lt))

pub reserved_all : (text : List ℕ) (after : Option ℕ) (rows : List (ℕ × NumberRow)) → AreNumberRows rows → Reserved text after rows → IsNextSuch (is_met text) after rows None → All (HasRoomFor text) (rows_of rows)
reserved_all text after rows are before next = All-from_recursion (HasRoomFor text) (rows_of rows) (each_at (HasRoomFor text) rows are.ascending (λ q. go q (is_behind after q) refl))
  where
    go : (q : ℕ) → (b : Bool) → is_behind after q ≡ b → IfSome (row_at q rows) (HasRoomFor text)
    go q false is = before.room q is
    go q true is = room_idle text (row_at q rows) (next q is)

-- what held of each row holds of the one behind the last one that is found
pub still_at : {Y : Type 0} (P : NumberRow → Type 0) (view : NumberRow → Y) (f : Y → Y) (after : Option ℕ) (q : ℕ) (old rows : List (ℕ × NumberRow)) → All P (rows_of old) → Walked view f after old rows → is_behind after q ≡ true → IfSome (row_at q rows) P
still_at P view f after q old rows all walked over =
    subst (λ (o : Option NumberRow). IfSome o P) (sym (walked.rest q over)) (at_each P q old (recursion_from_All P (rows_of old) all))

-- with one more subscriber
pub noted_met : (id : ℕ) (text : List ℕ) (row : NumberRow) → is_met text row ≡ true → joined id (shown row) ≡ noted id text (shown row)
noted_met id text row met = let is : intersects row.key.text text ≡ true = met in rw is refl

pub noted_idle : (id : ℕ) (text : List ℕ) (row : NumberRow) → is_met text row ≡ false → shown row ≡ noted id text (shown row)
noted_idle id text row fails = let is : intersects row.key.text text ≡ false = fails in rw is refl

-- what is not in a list is not taken out
not_in : (id : ℕ) (ids : List ℕ) → list_any (λ other. other == id) ids ≡ false → ids ≡ filter (λ other. not (other == id)) ids
not_in id [] fails = refl
not_in id (other ∷ ids) fails = go (other == id) refl (not_in id ids)
  where
    go : (b : Bool) → (other == id) ≡ b → (list_any (λ o. o == id) ids ≡ false → ids ≡ filter (λ o. not (o == id)) ids) → other ∷ ids ≡ filter (λ o. not (o == id)) (other ∷ ids)
    go true here more = absurd (true≢false (rw here at fails))
    go false apart more = rw apart (ap (λ rest. other ∷ rest) (more (rw apart at fails)))

pub forgotten_idle : (id : ℕ) (row : NumberRow) → lists_id id row ≡ false → shown row ≡ forgotten id (shown row)
forgotten_idle id row fails = ap (λ ids. record (shown row) { matches = ids }) (not_in id row.matches.items fails)
