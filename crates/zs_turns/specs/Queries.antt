-- What clauses see of a query that a queryable is handed.
use Rattle.std.specs.Prelude.{ℕ}
use Rattle.zs_query.specs.QueryData.{Query}

-- its fields, the number under which it is answered and given back, and the tag of its session
pub record QuerySeen : Type 0 where
  pub data_of : Query
  pub value : ℕ
  pub tag : ℕ
