use Rattle.std.proofs.Common.{◌≡◌, take}
use Rattle.zs_keeping.specs.Keeping.{with_effects}
use Rattle.zs_keeping.proofs.keeping.take_effects.Given as goal

abbrev pub invariant-loop-effect : goal.invariant-loop-effect
invariant-loop-effect l = l.store ≡ with_effects l.id (take l.effect-index l.items) l.fn.store
