use Rattle.std.proofs.Common.{◌≡◌, []}
use Rattle.zs_gate.proofs.lock.KeyedLock.hold.Given as goal

abbrev pub invariant-loop : goal.invariant-loop
invariant-loop g l = (l.seat.table_id ≡ l.shared.table_id) × (l.seat.me ≡ (l.shared.key, []))
