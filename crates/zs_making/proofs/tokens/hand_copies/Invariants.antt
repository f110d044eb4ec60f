use Rattle.std.proofs.Common.{◌≡◌, ◌++◌, take, map}
use Rattle.zs_model.specs.LivelinessEffects.{hand_sample}
use Rattle.zs_making.proofs.tokens.hand_copies.Given as goal

abbrev pub invariant-loop-id : goal.invariant-loop-id
invariant-loop-id l = l.effects ≡ l.fn.effects ++ map (hand_sample l.sample) (take l.id-index l.ids)
