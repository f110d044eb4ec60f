use Rattle.std.proofs.Common.{◌≡◌}
use Rattle.std.specs.VecDeque.{deque_len}
use Rattle.zs_cell.specs.Works.{returned}
use Rattle.zs_cell.proofs.reports.next_query.Given as goal

abbrev pub invariant-loop-report : goal.invariant-loop-report
invariant-loop-report g l = returned l.fn.tag l.fn.asks l.reports.items ≡ returned l.fn.tag l.fn.asks l.fn.reports.items

abbrev pub decreases-loop-report : goal.decreases-loop-report
decreases-loop-report g l = deque_len l.reports
