use Rattle.std.proofs.Common.{◌≡◌, flat_map, take}
use Rattle.zs_keeping.specs.Answering.{effect_answers}
use Rattle.zs_keeping.proofs.answering.answers_to.Given as goal

abbrev pub invariant-loop-effect : goal.invariant-loop-effect
invariant-loop-effect l = l.events.items ≡ flat_map (λ effect. effect_answers l.id l.store effect) (take l.effect-index l.items)
