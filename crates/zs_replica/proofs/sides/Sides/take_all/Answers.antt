use Rattle.std.proofs.Common.{sym, ap, ◌∙◌, subst, arith, take}
use Rattle.zs_events.specs.declared.event.Event.{Event}
use Rattle.zs_replica.specs.Told.{Told, with_taken, with_all}
use Rattle.zs_replica.specs.Sides.{AreTold}
use Rattle.zs_replica.proofs.Steps.{one_more}
use Rattle.zs_replica.proofs.sides.Sides.take_all.Goals as goal

pub loop-event-preserved : goal.loop-event-preserved
loop-event-preserved c s t told =
    let number = c.args.number in
    let side = c.args.side in
    let events = c.args.events.now in
    let i = c.loop-event.event-index in
    let x = c.event-item.result in
    let before = with_all s number side (take i events) t in
    subst (λ (made : Told). AreTold c.take_told.new.self s made)
    (ap (λ (e : Event). with_taken s number side e before) c.event-item.is ∙ sym (one_more s number side events i x t (omega arith)))
    (c.in_ok-take_told.ensures s before (c.loop-event.invariant s t told))
