use Rattle.std.proofs.Common.{◌≡◌, Ok, Err, Result, IfOk}
use Rattle.zs_events.specs.declared.event.Event.{Event}
use Rattle.zs_world.specs.declared.change.Decision.{Decision}
use Rattle.zs_world.specs.World.{World}
use Rattle.zs_world.specs.Decisions.{decision, with_listeners}
use Rattle.zs_standing.specs.Plans.{Plans}
use Rattle.zs_standing.proofs.Steps.{plans_on}
use Rattle.zs_core.proofs.state.SessionState.plan.Goals as goal

planned : {E : Type 0} (w : World) (e : Event) (made : Result Decision E) → IfOk made (λ d. d ≡ with_listeners w (decision w e)) → IfOk made (λ d. Plans w e d)
planned w e (Ok d) is = plans_on w e d is
planned w e (Err x) is = tt

pub returns : goal.returns
returns c = planned c.args.self.now c.args.event.now c.decide.result c.decide.ensures
