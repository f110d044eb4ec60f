use Rattle.zs_groups.specs.Told.{with_many}
use Rattle.zs_groups.specs.Sides.{Becomes}
use Rattle.zs_groups.proofs.sides.Sides.deliver_many.Given as goal

abbrev pub invariant-loop : goal.invariant-loop
invariant-loop l = Becomes (λ s t. with_many l.from l.counter t) l.fn.self l.self
