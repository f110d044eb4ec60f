use Rattle.std.proofs.Common.{◌≡◌, flat_map, take}
use Rattle.zs_turns.specs.Gates.{effect_ends}
use Rattle.zs_turns.proofs.gates.ends_of.Given as goal

abbrev pub invariant-loop-effect : goal.invariant-loop-effect
invariant-loop-effect l = l.all.items ≡ flat_map effect_ends (take l.effect-index l.effects)
