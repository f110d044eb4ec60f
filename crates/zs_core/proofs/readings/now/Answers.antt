use Rattle.std.proofs.Common.{◌∙◌, ap}
use Rattle.zs_world.specs.World.{World}
use Rattle.zs_standing.proofs.Steps.{now_told}
use Rattle.zs_core.proofs.readings.now.Goals as goal

pub returns-clause-told : goal.returns-clause-told
returns-clause-told c = now_told c.args.world.now c.moment.result (c.moment.ensures ∙ ap (λ (w : World). w.asking.moment) c.world.view_is)
