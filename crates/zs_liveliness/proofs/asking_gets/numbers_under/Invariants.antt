use Rattle.std.proofs.Common.{◌≡◌, ◌++◌, length}
use Rattle.std.specs.Prelude.{filter}
use Rattle.zs_rows.specs.Index.{under}
use Rattle.zs_rows.specs.Rows.{is_behind}
use Rattle.zs_liveliness.proofs.asking_gets.numbers_under.Given as goal

abbrev pub invariant-numbers : goal.invariant-numbers
invariant-numbers l = l.numbers.items ++ filter (λ m. is_behind l.after m) (under l.fn.key l.fn.index) ≡ under l.fn.key l.fn.index

abbrev pub decreases-numbers : goal.decreases-numbers
decreases-numbers l = length (filter (λ m. is_behind l.after m) (under l.fn.key l.fn.index))
