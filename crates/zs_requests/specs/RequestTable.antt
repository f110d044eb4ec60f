-- The unfinished query values of a session, with the counter of their numbers.
use Rattle.std.specs.Prelude.{ℕ, ◌+◌, List, [], ◌∷◌, ◌++◌, length, Option, Some, None}
use Rattle.zs_requests.specs.declared.request_row.RequestRow.{RequestRow}
use Rattle.zs_requests.specs.declared.query_value.QueryValue.{QueryValue}
use Rattle.zs_requests.specs.Unfinished.{value_at, values_from, without_value}

-- how many requests were handed out so far, the unfinished values, ascending, and the number that the next one draws
pub record Handing : Type 0 where
  pub handed : ℕ
  pub values : List QueryValue
  pub next : ℕ

-- with one request more, which draws a value for each queryable; for none it is not handed out
abbrev pub with_handed : RequestRow → List ℕ → Handing → Handing
with_handed row [] h = h
with_handed row (q ∷ qs) h = record h {
  handed = h.handed + 1;
  values = h.values ++ values_from h.next h.handed row (q ∷ qs);
  next = h.next + length (q ∷ qs);
}

-- with one value more of the same request and queryable, if there is one to share
abbrev pub with_share : Option QueryValue → Handing → Handing
with_share None h = h
with_share (Some v) h = record h { values = h.values ++ record v { value = h.next } ∷ []; next = h.next + 1 }

abbrev pub with_shared : ℕ → Handing → Handing
with_shared value h = with_share (value_at value h.values) h

-- without a value
abbrev pub with_finished : ℕ → Handing → Handing
with_finished value h = record h { values = without_value value h.values }
