use Rattle.std.proofs.Common.{◌≡◌, ◌++◌}
use Rattle.zs_rows.specs.Rows.{numbers_of}
use Rattle.zs_liveliness.proofs.asking_gets.numbers_of.Given as goal

abbrev pub invariant-loop-number : goal.invariant-loop-number
invariant-loop-number l =
    (goal.iterator-loop-number).can_next l.number-iterator ×
    (goal.iterator-loop-number).is_finite l.number-iterator ×
    (l.numbers.items ++ numbers_of l.number-iterator ≡ numbers_of l.rows)
