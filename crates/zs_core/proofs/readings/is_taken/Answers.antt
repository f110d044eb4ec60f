use Rattle.std.proofs.Common.{◌∙◌, ap}
use Rattle.zs_world.specs.World.{World}
use Rattle.zs_model.specs.Cancelling.{is_among}
use Rattle.zs_standing.proofs.Steps.{taken_told}
use Rattle.zs_core.proofs.readings.is_taken.Goals as goal

pub returns : goal.returns
returns c = taken_told c.args.world.now c.args.token c.contains.result (c.contains.ensures ∙ ap (λ (w : World). is_among w.cancelling.taken c.args.token) c.world.view_is)
