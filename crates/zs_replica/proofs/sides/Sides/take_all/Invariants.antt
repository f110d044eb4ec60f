use Rattle.std.proofs.Common.{take}
use Rattle.zs_replica.specs.Told.{with_all}
use Rattle.zs_replica.specs.Sides.{Becomes}
use Rattle.zs_replica.proofs.sides.Sides.take_all.Given as goal

abbrev pub invariant-loop-event : goal.invariant-loop-event
invariant-loop-event l = Becomes (λ s t. with_all s l.number l.side (take l.event-index l.events) t) l.fn.self l.self
