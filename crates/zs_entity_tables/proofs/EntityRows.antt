-- Entities under their numbers, as the list of the entities alone.
use Rattle.std.proofs.Common.{◌≡◌, ℕ, ◌<◌, false, List, [], ◌∷◌, ◌++◌, refl, sym, ap, subst, ◌∙◌}
use Rattle.std.specs.Prelude.{◌==◌, not, filter, All, is_some}
use Rattle.zs_rows.specs.Ascending.{Ascend}
use Rattle.zs_rows.specs.Rows.{row_at, rows_of, without_row, placed_row, AreNumbered}
use Rattle.zs_rows.proofs.Numbered.{rows_placed, rows_without, rows_ascend, numbered_placed, numbered_without}
use Rattle.zs_keyed.proofs.Ascending.{above_all, any_none, placed_is, placed_last}
use Rattle.zs_keyed.proofs.Numbered.{any_at}
use Rattle.zs_entity_tables.specs.EntityRows.{AreEntities}

-- no entity has a number above all
pub unused_above : {R : Type 0} (number : R → ℕ) (row : R) (rows : List (ℕ × R)) → AreEntities number rows → All (λ other. number other < number row) (rows_of rows) → is_some (row_at (number row) rows) ≡ false
unused_above number row rows is above =
    any_at number (number row) rows is.numbered ∙ any_none number (number row) (rows_of rows) (above_all number (number row) (rows_of rows) above)

-- with one more
pub entities_more : {R : Type 0} (number : R → ℕ) (row : R) (rows rows' : List (ℕ × R)) → AreEntities number rows → rows' ≡ placed_row (number row) row rows → Ascend (λ (e : ℕ × R). e.0) rows' → AreEntities number rows'
entities_more number row rows rows' is put up = record {
  ascending = up;
  numbered = subst (AreNumbered number) (sym put) (numbered_placed number (number row) row rows is.numbered refl);
}

pub entity_last : {R : Type 0} (number : R → ℕ) (row : R) (rows rows' : List (ℕ × R)) → AreEntities number rows → All (λ other. number other < number row) (rows_of rows) → rows' ≡ placed_row (number row) row rows → rows_of rows' ≡ rows_of rows ++ row ∷ []
entity_last number row rows rows' is above put =
    ap rows_of put
    ∙ (rows_placed number (number row) row rows is.numbered
    ∙ (placed_is number row (rows_of rows) (rows_ascend number rows is.numbered is.ascending) (above_all number (number row) (rows_of rows) above)
    ∙ placed_last number row (rows_of rows) above))

-- without one
pub entities_less : {R : Type 0} (number : R → ℕ) (n : ℕ) (rows rows' : List (ℕ × R)) → AreEntities number rows → rows' ≡ without_row n rows → Ascend (λ (e : ℕ × R). e.0) rows' → AreEntities number rows'
entities_less number n rows rows' is out up = record {
  ascending = up;
  numbered = subst (AreNumbered number) (sym out) (numbered_without number n rows is.numbered);
}

pub entity_gone : {R : Type 0} (number : R → ℕ) (n : ℕ) (rows rows' : List (ℕ × R)) → AreEntities number rows → rows' ≡ without_row n rows → rows_of rows' ≡ filter (λ row. not (number row == n)) (rows_of rows)
entity_gone number n rows rows' is out = ap rows_of out ∙ rows_without number n rows is.numbered
