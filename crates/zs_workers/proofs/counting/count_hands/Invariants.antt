use Rattle.std.proofs.Common.{◌≡◌, ◌≤◌, ◌*◌, take, length}
use Rattle.zs_workers.specs.HandOvers.{hands_of}
use Rattle.zs_workers.proofs.counting.count_hands.Given as goal

abbrev pub invariant-loop-entry : goal.invariant-loop-entry
invariant-loop-entry l = (l.count ≡ length (hands_of (take l.entry-index l.entries))) × (l.count ≤ l.entry-index * 18446744073709551616)
