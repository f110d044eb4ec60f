use Rattle.std.proofs.Common.{◌≡◌, ◌++◌, take, map}
use Rattle.zs_model.specs.LivelinessEffects.{end_asking}
use Rattle.zs_making.proofs.tokens.push_asking_ends.Given as goal

abbrev pub invariant-loop-number : goal.invariant-loop-number
invariant-loop-number l = l.effects ≡ l.fn.effects ++ map end_asking (take l.number-index l.numbers)
