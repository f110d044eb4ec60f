use Rattle.std.proofs.Common.{◌≡◌, ◌++◌, length, map}
use Rattle.zs_model.specs.GetEffects.{hand_reply}
use Rattle.zs_making.proofs.get_effects.hand_replies.Given as goal

abbrev pub invariant-loop-reply : goal.invariant-loop-reply
invariant-loop-reply l =
    (l.effects ++ map (hand_reply l.number) l.reply-iterator.rest.items ≡ l.fn.effects ++ map (hand_reply l.number) l.initial.reply-iterator.rest.items)
    × (l.reply-iterator.rest.len ≡ length l.reply-iterator.rest.items)
