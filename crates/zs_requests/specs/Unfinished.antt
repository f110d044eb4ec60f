-- The query values that were handed out and not given back.
use Rattle.std.specs.Prelude.{◌≡◌, ℕ, ◌+◌, ◌<◌, ◌==◌, ◌&&◌, Bool, not, List, [], ◌∷◌, filter, Option, Some, None, MatchOption, if◌then◌else◌}
use Rattle.std.specs.List.{find, list_any, AllByRecursion}
use Rattle.std.specs.Borrow.{Bor}
use Rattle.zs_requests.specs.declared.query_value.QueryValue.{QueryValue}
use Rattle.zs_requests.specs.declared.request_row.RequestRow.{RequestRow}
use Rattle.zs_requests.specs.declared.requests.Finished.{Finished}
use Rattle.zs_requests.specs.declared.requests.Finished.TheVariants.{Unknown, MoreLeft, Last}
use Rattle.zs_requests.specs.declared.requests.Finishing.{Finishing}
use Rattle.zs_requests.specs.declared.requests.Finishing.TheVariants as finishing
use Rattle.zs_rows.specs.Ascending.{Ascend, placed}
pub use Rattle.zs_rows.specs.Rows.{is_between}

-- the unfinished values, ascending, and how many requests were handed out so far
pub record Unfinished : Type 0 where
  pub handed : ℕ
  pub values : List QueryValue

-- the unfinished value of that number, if there is one
abbrev pub value_at : ℕ → List QueryValue → Option QueryValue
value_at number values = find (λ v. v.value == number) values

-- whether an unfinished value has one of these numbers
abbrev pub are_used : ℕ → ℕ → List QueryValue → Bool
are_used first end values = list_any (λ v. is_between first end v.value) values

-- a value of the request for each queryable, numbered from `first` on
abbrev pub values_from : ℕ → ℕ → RequestRow → List ℕ → List QueryValue
values_from first request row [] = []
values_from first request row (q ∷ qs) = record { value = first; queryable = q; request = request; row = row } ∷ values_from (first + 1) request row qs

-- the values with those of one more request
abbrev pub with_request : ℕ → RequestRow → List ℕ → Unfinished → Unfinished
with_request first row queryables u = record {
  handed = u.handed + 1;
  values = placed (λ v. v.value) first (values_from first u.handed row queryables) u.values;
}

-- the values with one more of the same request and queryable, if there is one to share
abbrev pub shared : ℕ → Option QueryValue → List QueryValue → List QueryValue
shared new None values = values
shared new (Some v) values = placed (λ v. v.value) new (record v { value = new } ∷ []) values

-- whether another value of its request is unfinished
abbrev pub has_other : QueryValue → List QueryValue → Bool
has_other v values = list_any (λ o. (o.request == v.request) && not (o.value == v.value)) values

-- what giving it back comes to
abbrev pub finished : Option QueryValue → List QueryValue → Finished
finished None values = Unknown
finished (Some v) values = if has_other v values then MoreLeft else Last v.row

-- what it comes to, with the request lent
abbrev pub finished_as : Finishing → Finished
finished_as finishing.Unknown = Unknown
finished_as finishing.MoreLeft = MoreLeft
finished_as (finishing.Last row) = Last row.now

-- the values without one
abbrev pub without_value : ℕ → List QueryValue → List QueryValue
without_value number values = filter (λ v. not (v.value == number)) values

-- the values of the same request
abbrev pub of_same_request : Option QueryValue → List QueryValue → List QueryValue
of_same_request None values = []
of_same_request (Some v) values = filter (λ o. o.request == v.request) values

-- what is found of a value: its request and its queryable
abbrev pub IsFound : Option QueryValue → Option (Bor RequestRow × ℕ) → Type 0
IsFound None found = found ≡ None
IsFound (Some v) found = MatchOption found (Some v ≡ None) (λ f. (f.0.now ≡ v.row) × (f.1 ≡ v.queryable))

-- the numbers ascend and have another above them, and each request is one of those that were handed out
pub record AreInOrder (handed : ℕ) (values : List QueryValue) : Type 0 where
  pub ascending : Ascend (λ v. v.value) values
  pub numbers : AllByRecursion (λ v. v.value < 4294967295) values
  pub requests : AllByRecursion (λ v. v.request < handed) values
