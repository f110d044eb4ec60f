use Rattle.std.proofs.Common.{◌≡◌, ◌≤◌, flat_map, take, length}
use Rattle.zs_workers.specs.HandOvers.{given_to}
use Rattle.zs_workers.proofs.counting.count_effects.Given as goal

abbrev pub invariant-loop-effect : goal.invariant-loop-effect
invariant-loop-effect l = (l.count ≡ length (flat_map given_to (take l.effect-index l.effects))) × (l.count ≤ l.effect-index)
