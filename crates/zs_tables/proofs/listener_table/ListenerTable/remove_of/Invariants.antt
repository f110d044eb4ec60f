use Rattle.std.proofs.Common.{◌≡◌, length}
use Rattle.std.specs.Prelude.{◌==◌, not, filter}
use Rattle.zs_tables.specs.Matching.{Listener}
use Rattle.zs_tables.proofs.listener_table.ListenerTable.remove_of.Given as goal

abbrev pub invariant-loop-id : goal.invariant-loop-id
invariant-loop-id l = filter (λ (x : Listener). not (x.row.parent == l.parent)) l.self ≡ filter (λ (x : Listener). not (x.row.parent == l.parent)) l.fn.self

abbrev pub decreases-loop-id : goal.decreases-loop-id
decreases-loop-id l = length l.self
