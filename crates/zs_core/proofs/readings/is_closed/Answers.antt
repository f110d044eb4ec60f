use Rattle.std.proofs.Common.{ap}
use Rattle.zs_world.specs.World.{World}
use Rattle.zs_standing.proofs.Steps.{closed_told}
use Rattle.zs_core.proofs.readings.is_closed.Goals as goal

pub returns-clause-told : goal.returns-clause-told
returns-clause-told c = closed_told c.args.world.now c.world.inside.closed (ap (λ (w : World). w.closed) c.world.view_is)
