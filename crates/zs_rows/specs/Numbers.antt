-- A set of numbers, ascending.
use Rattle.std.specs.Prelude.{ℕ, ◌==◌, Bool, List}
use Rattle.std.specs.List.{list_any}

-- whether the number is one of them
abbrev pub is_in : ℕ → List ℕ → Bool
is_in number numbers = list_any (λ n. n == number) numbers
