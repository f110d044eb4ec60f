use Rattle.std.proofs.Common.{subst}
use Rattle.zs_events.specs.declared.event.Event.{Event}
use Rattle.zs_delivery.specs.Linked.{Take}
use Rattle.zs_replica.specs.Told.{keeping, answering, with_link}
use Rattle.zs_replica.specs.Sides.{TakesEvent}
use Rattle.zs_replica.proofs.Steps.{takes_alone, then_becomes}
use Rattle.zs_replica.proofs.sides.Sides.declare.Goals as goal

pub returns : goal.returns
returns c =
    let side = c.args.side in
    let mid = c.take-kept.new.self in
    let new = c.take-answered.new.self in
    let one = subst (λ (e : Event). TakesEvent side e c.args.self.now c.in_ok-kept.kept mid) c.in_ok-keeping.ensures c.in_ok-kept.ensures in
    let two = subst (λ (e : Event). TakesEvent side e mid c.in_ok-answered.answered new) c.in_ok-answering.ensures c.in_ok-answered.ensures in
    then_becomes (λ s t. with_link (Take side keeping) t) (λ s t. with_link (Take side answering) t) c.args.self.now mid new
    (takes_alone side keeping c.args.self.now mid c.in_ok-kept.kept one) (takes_alone side answering mid new c.in_ok-answered.answered two)
