use Rattle.std.proofs.Common.{◌≡◌, take}
use Rattle.zs_events.proofs.turn.clone_all.Given as goal

abbrev pub invariant-loop-effect : goal.invariant-loop-effect
invariant-loop-effect l = l.copies ≡ take l.effect-index l.effects
