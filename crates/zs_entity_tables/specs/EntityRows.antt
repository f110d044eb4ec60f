-- How the tables of entities stand: words that no public contract needs.
use Rattle.std.specs.Prelude.{ℕ, List}
use Rattle.zs_rows.specs.Ascending.{Ascend}
use Rattle.zs_rows.specs.Rows.{AreNumbered}

-- the rows stand ascending under their numbers
pub record AreEntities {R : Type 0} (number : R → ℕ) (rows : List (ℕ × R)) : Type 0 where
  pub ascending : Ascend (λ e. e.0) rows
  pub numbered : AreNumbered number rows
