use Rattle.zs_replica.specs.Told.{with_many}
use Rattle.zs_replica.specs.Sides.{Becomes}
use Rattle.zs_replica.proofs.sides.Sides.deliver_many.Given as goal

abbrev pub invariant-loop : goal.invariant-loop
invariant-loop l = Becomes (λ s t. with_many s l.number l.from l.counter t) l.fn.self l.self
