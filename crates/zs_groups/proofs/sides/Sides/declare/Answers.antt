use Rattle.std.proofs.Common.{subst}
use Rattle.zs_events.specs.declared.event.Event.{Event}
use Rattle.zs_groups.specs.Told.{hearing}
use Rattle.zs_groups.specs.Sides.{TakesEvent}
use Rattle.zs_groups.proofs.Steps.{takes_alone}
use Rattle.zs_groups.proofs.sides.Sides.declare.Goals as goal

pub returns : goal.returns
returns c =
    let side = c.args.side in
    let new = c.take-taken.new.self in
    takes_alone side hearing c.args.self.now new c.in_ok-turn.turn
    (subst (λ (e : Event). TakesEvent side e c.args.self.now c.in_ok-turn.turn new) c.in_ok-hearing.ensures c.in_ok-turn.ensures)
