use Rattle.std.proofs.Common.{◌≡◌, ◌++◌, take, map}
use Rattle.zs_model.specs.GetEffects.{end_get}
use Rattle.zs_making.proofs.get_effects.push_get_ends.Given as goal

abbrev pub invariant-loop-number : goal.invariant-loop-number
invariant-loop-number l = l.effects ≡ l.fn.effects ++ map end_get (take l.number-index l.numbers)
