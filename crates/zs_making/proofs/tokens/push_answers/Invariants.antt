use Rattle.std.proofs.Common.{◌≡◌, ◌++◌, take, map}
use Rattle.zs_model.specs.LivelinessEffects.{hand_answer}
use Rattle.zs_making.proofs.tokens.push_answers.Given as goal

abbrev pub invariant-loop-number : goal.invariant-loop-number
invariant-loop-number l = l.effects ≡ l.fn.effects ++ map (hand_answer l.reply) (take l.number-index l.numbers)
