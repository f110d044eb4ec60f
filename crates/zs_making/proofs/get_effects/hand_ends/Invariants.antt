use Rattle.std.proofs.Common.{◌≡◌, ◌++◌, length}
use Rattle.std.specs.List.{flat_map}
use Rattle.zs_model.specs.GetEffects.{last_hands}
use Rattle.zs_making.proofs.get_effects.hand_ends.Given as goal

abbrev pub invariant-loop-number : goal.invariant-loop-number
invariant-loop-number l =
    (l.effects ++ flat_map last_hands l.number-iterator.rest.items ≡ l.fn.effects ++ flat_map last_hands l.initial.number-iterator.rest.items)
    × (l.number-iterator.rest.len ≡ length l.number-iterator.rest.items)
