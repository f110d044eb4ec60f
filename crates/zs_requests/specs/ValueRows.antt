-- The query values with the index that finds those of a request.
use Rattle.std.specs.Prelude.{◌≡◌, ◌≢◌, ℕ, Bool, true, false, List, Option, Some}
use Rattle.zs_rows.specs.declared.mark.Mark.{Mark}
use Rattle.zs_rows.specs.Ascending.{Ascend}
use Rattle.zs_rows.specs.Index.{is_marked, IsIndexOf}
use Rattle.zs_rows.specs.Rows.{AreNumbered, rows_of}
use Rattle.zs_requests.specs.declared.query_value.QueryValue.{QueryValue}
use Rattle.zs_requests.specs.Unfinished.{AreInOrder}

-- the key under which a value is found
abbrev pub request_of : QueryValue → Option ℕ
request_of v = Some v.request

-- whether another number stands under the key
abbrev pub IsAnother : ℕ → ℕ → List Mark → Bool → Type 0
IsAnother key number marks true = (n : ℕ) × (is_marked key n marks ≡ true) × (n ≢ number)
IsAnother key number marks false = (n : ℕ) → is_marked key n marks ≡ true → n ≡ number

-- each value stands under its number, the values are in order, and the index has the mark of each and no other
pub record AreFiled (handed : ℕ) (rows : List (ℕ × QueryValue)) (marks : List Mark) : Type 0 where
  pub numbered : AreNumbered (λ v. v.value) rows
  pub rising : Ascend (λ e. e.0) rows
  pub order : AreInOrder handed (rows_of rows)
  pub requests : IsIndexOf request_of rows marks
