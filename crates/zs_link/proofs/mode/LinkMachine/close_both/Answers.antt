use Rattle.std.proofs.Common.{sym, subst}
use Rattle.zs_events.specs.declared.event.Event.{Event}
use Rattle.zs_events.specs.declared.event.Event.TheVariants.{Close}
use Rattle.zs_events.specs.declared.turn.Turn.{Turn}
use Rattle.zs_delivery.specs.declared.side.LinkSide.TheVariants.{A, B}
use Rattle.zs_link.specs.World.{Takes}
use Rattle.zs_link.proofs.Machine.{takes_end, on_ok}
use Rattle.zs_link.proofs.mode.LinkMachine.close_both.Goals as goal

pub returns-clause-took : goal.returns-clause-took
returns-clause-took c =
    let one =
    subst (λ (turn : Turn). Takes A Close c.args.self.now.world turn c.take.new.self) (sym c.get.ensures)
    (subst (λ (e : Event). Takes A e c.args.self.now.world c.in_ok-first.first c.take.new.self) c.requires c.in_ok-first.ensures.ok) in
    let two =
    subst (λ (turn : Turn). Takes B Close c.take.new.self turn c.take-2.new.self) (sym c.get-2.ensures)
    (subst (λ (e : Event). Takes B e c.take.new.self c.in-Ok.second c.take-2.new.self) c.requires c.in-Ok.ensures.ok) in
    on_ok c.add_both-added.result _ _
    (takes_end c.args.number c.args.transcript.now c.add_both-added.new.transcript c.args.self.now.world c.take.new.self c.take-2.new.self c.get.result.now c.get-2.result.now one two)
    c.add_both-added.ensures.ok
