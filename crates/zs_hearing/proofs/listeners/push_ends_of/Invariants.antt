use Rattle.std.proofs.Common.{◌≡◌, ◌++◌, length}
use Rattle.std.specs.Prelude.{filter}
use Rattle.zs_subscriptions.specs.Recipients.{is_behind}
use Rattle.zs_hearing.proofs.Ends.{ids_of, ends_of}
use Rattle.zs_hearing.proofs.listeners.push_ends_of.Given as goal

abbrev pub invariant-loop-id : goal.invariant-loop-id
invariant-loop-id l = l.effects ++ ends_of (filter (is_behind l.last) (ids_of l.parent l.listeners)) ≡ l.fn.effects ++ ends_of (ids_of l.parent l.listeners)

abbrev pub decreases-loop-id : goal.decreases-loop-id
decreases-loop-id l = length (filter (is_behind l.last) (ids_of l.parent l.listeners))
