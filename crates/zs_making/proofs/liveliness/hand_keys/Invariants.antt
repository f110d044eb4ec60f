use Rattle.std.proofs.Common.{◌≡◌, ◌++◌, length, map}
use Rattle.zs_model.specs.LivelinessEffects.{hand_remote_token}
use Rattle.zs_making.proofs.liveliness.hand_keys.Given as goal

abbrev pub invariant-loop-key : goal.invariant-loop-key
invariant-loop-key l =
    (l.effects ++ map (hand_remote_token l.id) l.key-iterator.rest.items ≡ l.fn.effects ++ map (hand_remote_token l.id) l.initial.key-iterator.rest.items)
    × (l.key-iterator.rest.len ≡ length l.key-iterator.rest.items)
