use Rattle.std.proofs.Common.{◌++◌, sym, ap, ◌∙◌}
use Rattle.zs_world.specs.declared.change.Change.TheVariants.{OfEntities}
use Rattle.zs_world.specs.declared.change.EntityRow.{EntityRow}
use Rattle.zs_world.specs.declared.change.EntityChange.TheVariants.{Add}
use Rattle.zs_world.specs.World.{present_at}
use Rattle.zs_world.specs.Changes.{with_change}
use Rattle.zs_world.specs.Decisions.{listener_effects_at}
use Rattle.zs_world.proofs.Hearing.{quiet}
use Rattle.zs_hearing.proofs.listeners.hear_added.Goals as goal

pub returns-in-Pub : goal.returns-in-Pub
returns-in-Pub c =
    quiet c.args.effects.now c.args.world.now.matching.listeners (present_at c.args.world.now)
    ∙ ap (λ (row : EntityRow). c.args.effects.now ++ listener_effects_at c.args.world.now (with_change (OfEntities (Add row)) c.args.world.now)) (sym c.in-Pub.is)

pub returns-in-Querier : goal.returns-in-Querier
returns-in-Querier c =
    quiet c.args.effects.now c.args.world.now.matching.listeners (present_at c.args.world.now)
    ∙ ap (λ (row : EntityRow). c.args.effects.now ++ listener_effects_at c.args.world.now (with_change (OfEntities (Add row)) c.args.world.now)) (sym c.in-Querier.is)

pub returns-in-Token : goal.returns-in-Token
returns-in-Token c =
    quiet c.args.effects.now c.args.world.now.matching.listeners (present_at c.args.world.now)
    ∙ ap (λ (row : EntityRow). c.args.effects.now ++ listener_effects_at c.args.world.now (with_change (OfEntities (Add row)) c.args.world.now)) (sym c.in-Token.is)

pub returns-in-Lsub : goal.returns-in-Lsub
returns-in-Lsub c =
    quiet c.args.effects.now c.args.world.now.matching.listeners (present_at c.args.world.now)
    ∙ ap (λ (row : EntityRow). c.args.effects.now ++ listener_effects_at c.args.world.now (with_change (OfEntities (Add row)) c.args.world.now)) (sym c.in-Lsub.is)
