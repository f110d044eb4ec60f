use Rattle.std.proofs.Common.{◌≡◌, ◌++◌}
use Rattle.zs_query.specs.Gets.{ends_from}
use Rattle.zs_query.proofs.timeout.ends_of.Given as goal

abbrev pub invariant-loop-number : goal.invariant-loop-number
invariant-loop-number l =
    (goal.iterator-loop-number).can_next l.number-iterator ×
    (goal.iterator-loop-number).is_finite l.number-iterator ×
    (l.ends.items ++ ends_from l.number-iterator l.rows ≡ ends_from l.numbers l.rows)
