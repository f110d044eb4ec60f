use Rattle.std.proofs.Common.{◌++◌, sym, ap, ◌∙◌}
use Rattle.zs_world.specs.declared.change.Change.TheVariants.{OfEntities}
use Rattle.zs_world.specs.declared.change.EntityChange.{EntityChange}
use Rattle.zs_world.specs.World.{present_at}
use Rattle.zs_world.specs.Changes.{with_change}
use Rattle.zs_world.specs.Decisions.{listener_effects_at}
use Rattle.zs_world.proofs.Hearing.{quiet}
use Rattle.zs_hearing.proofs.listeners.hear_entities.Goals as goal

pub returns-in-Leave : goal.returns-in-Leave
returns-in-Leave c =
    quiet c.args.effects.now c.args.world.now.matching.listeners (present_at c.args.world.now)
    ∙ ap (λ (change : EntityChange). c.args.effects.now ++ listener_effects_at c.args.world.now (with_change (OfEntities change) c.args.world.now)) (sym c.in-Leave.is)
