-- The rows of numbers, each under its own, as the list of the rows alone.
use Rattle.std.proofs.Common.{◌≡◌, ℕ, Bool, true, false, List, [], ◌∷◌, Some, refl, sym, ap, ◌∙◌, subst, true≢false, arith}
use Rattle.std.specs.Prelude.{◌==◌, nat_lt, not, filter, is_some}
use Rattle.std.specs.List.{AllByRecursion, find, list_any}
use Rattle.std.proofs.lemmas.Bool.Decides.{nat_tests}
use Rattle.zs_rows.specs.Rows.{row_at, rows_of, without_row, with_row, placed_row}
use Rattle.zs_rows.proofs.Numbered.{row_of_number, rows_placed, rows_with, rows_ascend, rows_without, numbered_placed, numbered_without}
use Rattle.zs_keyed.proofs.Ascending.{none_has, placed_is}
use Rattle.zs_keyed.proofs.Numbered.{any_at}
use Rattle.zs_keyed.proofs.Placing.{written_is}
use Rattle.zs_subscriptions.specs.declared.number_row.NumberRow.{NumberRow}
use Rattle.zs_subscriptions.specs.Ascending.{Ascend, placed_by}
use Rattle.zs_subscriptions.specs.NumberRows.{AreNumberRows}
use Rattle.zs_keyed.proofs.Searching.{filter_none}

-- no rows
pub none_are : AreNumberRows []
none_are = record { ascending = tt; numbered = tt }

-- they ascend
pub numbers_up : (rows : List (ℕ × NumberRow)) (seen : List NumberRow) → AreNumberRows rows → rows_of rows ≡ seen → Ascend (λ row. row.number) seen
numbers_up rows seen are is = subst (Ascend (λ row. row.number)) is (rows_ascend (λ (row : NumberRow). row.number) rows are.numbered are.ascending)

-- one is found by its number
pub number_at_row : (n : ℕ) (rows : List (ℕ × NumberRow)) (seen : List NumberRow) → AreNumberRows rows → rows_of rows ≡ seen → row_at n rows ≡ find (λ row. row.number == n) seen
number_at_row n rows seen are is = row_of_number (λ (row : NumberRow). row.number) n rows are.numbered ∙ ap (find (λ row. row.number == n)) is

-- one is there where it is found
pub number_there : (n : ℕ) (rows : List (ℕ × NumberRow)) (seen : List NumberRow) → AreNumberRows rows → rows_of rows ≡ seen → is_some (row_at n rows) ≡ list_any (λ row. row.number == n) seen
number_there n rows seen are is = any_at (λ (row : NumberRow). row.number) n rows are.numbered ∙ ap (list_any (λ row. row.number == n)) is

-- with another in the place of one
pub over_is : (n : ℕ) (new old : NumberRow) (rows rows' : List (ℕ × NumberRow)) (seen : List NumberRow) → AreNumberRows rows → rows_of rows ≡ seen → Some old ≡ row_at n rows → new.number ≡ n → rows' ≡ with_row n new rows → rows_of rows' ≡ placed_by (λ row. row.number) new seen
over_is n new old rows rows' seen are is there numbered written =
    ap rows_of written
    ∙ (rows_with (λ (row : NumberRow). row.number) n new rows are.numbered
    ∙ (written_is (λ (row : NumberRow). row.number) new old n (rows_of rows) (rows_ascend (λ (row : NumberRow). row.number) rows are.numbered are.ascending) numbered (there ∙ row_of_number (λ (row : NumberRow). row.number) n rows are.numbered)
    ∙ ap (placed_by (λ row. row.number) new) is))

-- with one more
pub put_is : (new : NumberRow) (rows rows' : List (ℕ × NumberRow)) (seen : List NumberRow) → AreNumberRows rows → rows_of rows ≡ seen → list_any (λ row. row.number == new.number) seen ≡ false → rows' ≡ placed_row new.number new rows → rows_of rows' ≡ placed_by (λ row. row.number) new seen
put_is new rows rows' seen are is unused put =
    ap rows_of put
    ∙ (rows_placed (λ (row : NumberRow). row.number) new.number new rows are.numbered
    ∙ (placed_is (λ (row : NumberRow). row.number) new (rows_of rows) (rows_ascend (λ (row : NumberRow). row.number) rows are.numbered are.ascending)
    (none_has (λ (row : NumberRow). row.number) new.number (rows_of rows) (ap (list_any (λ row. row.number == new.number)) is ∙ unused))
    ∙ ap (placed_by (λ row. row.number) new) is))

pub put_are : (new : NumberRow) (rows rows' : List (ℕ × NumberRow)) → AreNumberRows rows → rows' ≡ placed_row new.number new rows → Ascend (λ (e : ℕ × NumberRow). e.0) rows' → AreNumberRows rows'
put_are new rows rows' are put up = record {
  ascending = up;
  numbered = subst (λ (rows : List (ℕ × NumberRow)). AllByRecursion (λ e. e.1.number ≡ e.0) rows) (sym put) (numbered_placed (λ (row : NumberRow). row.number) new.number new rows are.numbered refl);
}

-- without one
pub out_is : (n : ℕ) (rows rows' : List (ℕ × NumberRow)) (seen : List NumberRow) → AreNumberRows rows → rows_of rows ≡ seen → rows' ≡ without_row n rows → rows_of rows' ≡ filter (λ row. not (row.number == n)) seen
out_is n rows rows' seen are is out = ap rows_of out ∙ (rows_without (λ (row : NumberRow). row.number) n rows are.numbered ∙ ap (filter (λ row. not (row.number == n))) is)

pub out_are : (n : ℕ) (rows rows' : List (ℕ × NumberRow)) → AreNumberRows rows → rows' ≡ without_row n rows → Ascend (λ (e : ℕ × NumberRow). e.0) rows' → AreNumberRows rows'
out_are n rows rows' are out up = record {
  ascending = up;
  numbered = subst (λ (rows : List (ℕ × NumberRow)). AllByRecursion (λ e. e.1.number ≡ e.0) rows) (sym out) (numbered_without (λ (row : NumberRow). row.number) n rows are.numbered);
}

-- a row that was put in is found
pub put_found : (new : NumberRow) (rows : List NumberRow) → list_any (λ row. row.number == new.number) rows ≡ false → find (λ row. row.number == new.number) (placed_by (λ row. row.number) new rows) ≡ Some new
put_found new [] unused = let itself : (new.number == new.number) ≡ true = grind (arith, nat_tests) in rw itself refl
put_found new (row ∷ rows) unused = go (row.number == new.number) refl (nat_lt new.number row.number) refl (put_found new rows)
  where
    itself : (new.number == new.number) ≡ true
    itself = grind (arith, nat_tests)

    go : (b : Bool) → (row.number == new.number) ≡ b → (c : Bool) → nat_lt new.number row.number ≡ c
        → (list_any (λ row. row.number == new.number) rows ≡ false → find (λ row. row.number == new.number) (placed_by (λ row. row.number) new rows) ≡ Some new)
        → find (λ row. row.number == new.number) (placed_by (λ row. row.number) new (row ∷ rows)) ≡ Some new
    go true same c below more = absurd (true≢false (rw same at unused))
    go false apart true below more = rw (apart, below, itself) refl
    go false apart false above more = rw (apart, above, apart) (more (rw apart at unused))

-- and without it all is as it was
pub put_back : (new : NumberRow) (rows : List NumberRow) → Ascend (λ row. row.number) rows → list_any (λ row. row.number == new.number) rows ≡ false → filter (λ row. not (row.number == new.number)) (placed_by (λ row. row.number) new rows) ≡ rows
put_back new [] up unused = let itself : (new.number == new.number) ≡ true = grind (arith, nat_tests) in rw itself refl
put_back new (row ∷ rows) up unused = go (row.number == new.number) refl (nat_lt new.number row.number) refl (put_back new rows up.1)
  where
    itself : (new.number == new.number) ≡ true
    itself = grind (arith, nat_tests)

    none : (more : List NumberRow) → list_any (λ row. row.number == new.number) more ≡ false → filter (λ row. not (row.number == new.number)) more ≡ more
    none more free = filter_none (λ (row : NumberRow). row.number) new.number more (none_has (λ (row : NumberRow). row.number) new.number more free)

    go : (b : Bool) → (row.number == new.number) ≡ b → (c : Bool) → nat_lt new.number row.number ≡ c
        → (list_any (λ row. row.number == new.number) rows ≡ false → filter (λ row. not (row.number == new.number)) (placed_by (λ row. row.number) new rows) ≡ rows)
        → filter (λ row. not (row.number == new.number)) (placed_by (λ row. row.number) new (row ∷ rows)) ≡ row ∷ rows
    go true same c below more = absurd (true≢false (rw same at unused))
    go false apart true below more = rw (apart, below, itself, apart) (ap (λ rest. row ∷ rest) (none rows (rw apart at unused)))
    go false apart false above more = rw (apart, above, apart) (ap (λ rest. row ∷ rest) (more (rw apart at unused)))
