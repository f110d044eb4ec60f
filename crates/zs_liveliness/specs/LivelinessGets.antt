-- The open liveliness gets, and what ends them.
use Rattle.std.specs.Prelude.{ℕ, ◌==◌, nat_le, Bool, false, not, List, map, filter, Option, Some, None}
use Rattle.std.specs.List.{list_any}
use Rattle.zs_keyed.specs.Ascending.{placed_by}
use Rattle.zs_liveliness.specs.declared.liveliness_get.LivelinessGet.{LivelinessGet}

-- whether one of that number is open
abbrev pub is_asking : ℕ → List LivelinessGet → Bool
is_asking number gets = list_any (λ g. g.number == number) gets

-- with one more, in ascending order; it takes the place of one with its number
abbrev pub with_liveliness_get : LivelinessGet → List LivelinessGet → List LivelinessGet
with_liveliness_get get gets = placed_by (λ g. g.number) get gets

-- without that of a number
abbrev pub without_liveliness_get : ℕ → List LivelinessGet → List LivelinessGet
without_liveliness_get number gets = filter (λ g. not (g.number == number)) gets

-- whether a deadline is reached
abbrev pub is_over : ℕ → LivelinessGet → Bool
is_over now g = nat_le g.deadline now

-- the numbers of those whose deadline is reached
abbrev pub over_at : ℕ → List LivelinessGet → List ℕ
over_at now gets = map (λ g. g.number) (filter (is_over now) gets)

-- those whose deadline is not reached
abbrev pub waiting_at : ℕ → List LivelinessGet → List LivelinessGet
waiting_at now gets = filter (λ g. not (is_over now g)) gets

-- whether a cancellation token is that of a get, which may have none
abbrev pub is_own : ℕ → Option ℕ → Bool
is_own cancellation_token None = false
is_own cancellation_token (Some own) = own == cancellation_token

-- the numbers of those that have a cancellation token
abbrev pub numbers_with : ℕ → List LivelinessGet → List ℕ
numbers_with cancellation_token gets = map (λ g. g.number) (filter (λ g. is_own cancellation_token g.cancellation_token) gets)

-- those that don't have it
abbrev pub without_cancellation_token : ℕ → List LivelinessGet → List LivelinessGet
without_cancellation_token cancellation_token gets = filter (λ g. not (is_own cancellation_token g.cancellation_token)) gets
