use Rattle.std.proofs.Common.{◌≡◌, length}
use Rattle.zs_keys.specs.Matching.{units}
use Rattle.zs_keys.proofs.units.Units.next_unit.Given as goal

abbrev pub invariant-loop-rest : goal.invariant-loop-rest
invariant-loop-rest l = units l.fn.self.rest.now ≡ units l.rest

abbrev pub decreases-loop-rest : goal.decreases-loop-rest
decreases-loop-rest l = length l.rest
