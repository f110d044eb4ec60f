use Rattle.std.proofs.Common.{◌≡◌, ap, subst}
use Rattle.zs_world.specs.World.{World}
use Rattle.zs_world.specs.Decisions.{decision, with_listeners}
use Rattle.zs_standing.proofs.Steps.{alone_fits}
use Rattle.zs_core.proofs.state.SessionState.decide.Goals as goal

pub hear-requires : goal.hear-requires
hear-requires c = alone_fits c.self.inside.world c.args.event.now c.in_ok-turn.field-0 c.in_ok-turn.ensures

pub returns : goal.returns
returns c =
    rw c.in_ok-hear.ensures
    (subst (λ (w : World). with_listeners c.self.inside.world c.in_ok-turn.field-0 ≡ with_listeners w (decision w c.args.event.now)) c.self.view_is
    (ap (with_listeners c.self.inside.world) c.in_ok-turn.ensures))
