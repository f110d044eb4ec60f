use Rattle.std.proofs.Common.{◌≡◌}
use Rattle.std.specs.Prelude.{filter}
use Rattle.zs_rows.specs.Rows.{is_behind}
use Rattle.zs_subscriptions.specs.NumberRows.{is_met}
use Rattle.zs_subscriptions.proofs.Stepping.{first_such}
use Rattle.zs_subscriptions.proofs.nexts.next_met.Given as goal

abbrev pub invariant-loop-number : goal.invariant-loop-number
invariant-loop-number l =
    (goal.iterator-loop-number).can_next l.number-iterator ×
    (goal.iterator-loop-number).is_finite l.number-iterator ×
    (first_such (is_met l.key.text) l.number-iterator ≡ first_such (is_met l.key.text) (filter (λ e. is_behind l.fn.after e.0) l.fn.rows))
