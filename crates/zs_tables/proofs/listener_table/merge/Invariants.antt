use Rattle.std.proofs.Common.{◌≡◌, ◌++◌, length}
use Rattle.zs_tables.specs.Listeners.{merged}
use Rattle.zs_tables.proofs.listener_table.merge.Given as goal

abbrev pub invariant-loop-id : goal.invariant-loop-id
invariant-loop-id l = l.ids.items ++ merged l.more_left l.more_right ≡ merged l.fn.left l.fn.right

abbrev pub decreases-loop-id : goal.decreases-loop-id
decreases-loop-id l = length (merged l.more_left l.more_right)
