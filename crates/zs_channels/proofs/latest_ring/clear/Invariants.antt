use Rattle.std.proofs.Common.{◌≡◌, true, length}
use Rattle.zs_channels.proofs.latest_ring.clear.Given as goal

abbrev pub invariant-loop-item : goal.invariant-loop-item
invariant-loop-item g l = (l.ring.capacity ≡ l.initial.ring.capacity) × (l.ring.ended ≡ true)

abbrev pub decreases-loop-item : goal.decreases-loop-item
decreases-loop-item g l = length l.ring.items
