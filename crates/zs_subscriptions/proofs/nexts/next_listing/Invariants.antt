use Rattle.std.proofs.Common.{◌≡◌}
use Rattle.std.specs.Prelude.{filter}
use Rattle.std.specs.List.{AllByRecursion}
use Rattle.zs_rows.specs.Rows.{is_behind}
use Rattle.zs_subscriptions.specs.Lists.{IsAscending}
use Rattle.zs_subscriptions.specs.NumberRows.{lists_id}
use Rattle.zs_subscriptions.proofs.Stepping.{first_such}
use Rattle.zs_subscriptions.proofs.nexts.next_listing.Given as goal

abbrev pub invariant-loop-number : goal.invariant-loop-number
invariant-loop-number l =
    (goal.iterator-loop-number).can_next l.number-iterator ×
    (goal.iterator-loop-number).is_finite l.number-iterator ×
    (first_such (lists_id l.id) l.number-iterator ≡ first_such (lists_id l.id) (filter (λ e. is_behind l.fn.after e.0) l.fn.rows)) ×
    AllByRecursion (λ e. IsAscending e.1) l.number-iterator
