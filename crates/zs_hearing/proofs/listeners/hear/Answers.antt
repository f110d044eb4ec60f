use Rattle.std.proofs.Common.{[], ◌++◌, sym, ap, ◌∙◌}
use Rattle.std.specs.Prelude.{map}
use Rattle.zs_tables.specs.declared.listener.Listener.{Listener}
use Rattle.zs_tables.specs.Matching.{candidates}
use Rattle.zs_world.specs.declared.change.Change.{Change}
use Rattle.zs_world.specs.World.{present_at}
use Rattle.zs_world.specs.Changes.{with_change}
use Rattle.zs_world.specs.Decisions.{listener_effects_at}
use Rattle.zs_world.proofs.Hearing.{quiet, between_none}
use Rattle.zs_hearing.proofs.listeners.hear.Goals as goal

pub returns-in-Shut : goal.returns-in-Shut
returns-in-Shut c =
    let s = c.world.inside in
    let rows = map (λ (l : Listener). l.row) s.matching.listeners in
    let ended = between_none rows (candidates s.tables.rows s.queryables s.matching.remote_entities) (candidates [] [] s.matching.remote_entities) in
    rw (c.in-Shut.is, ← c.world.view_is) (rw (c.listeners.ensures, sym ended) at c.push_ends.ensures)

pub returns-in-Nothing : goal.returns-in-Nothing
returns-in-Nothing c =
    quiet c.args.effects.now c.args.world.now.matching.listeners (present_at c.args.world.now)
    ∙ ap (λ (change : Change). c.args.effects.now ++ listener_effects_at c.args.world.now (with_change change c.args.world.now)) (sym c.in-Nothing.is)

pub returns-in-OfKeys : goal.returns-in-OfKeys
returns-in-OfKeys c =
    quiet c.args.effects.now c.args.world.now.matching.listeners (present_at c.args.world.now)
    ∙ ap (λ (change : Change). c.args.effects.now ++ listener_effects_at c.args.world.now (with_change change c.args.world.now)) (sym c.in-OfKeys.is)

pub returns-in-OfNetwork : goal.returns-in-OfNetwork
returns-in-OfNetwork c =
    quiet c.args.effects.now c.args.world.now.matching.listeners (present_at c.args.world.now)
    ∙ ap (λ (change : Change). c.args.effects.now ++ listener_effects_at c.args.world.now (with_change change c.args.world.now)) (sym c.in-OfNetwork.is)

pub returns-in-OfGets : goal.returns-in-OfGets
returns-in-OfGets c =
    quiet c.args.effects.now c.args.world.now.matching.listeners (present_at c.args.world.now)
    ∙ ap (λ (change : Change). c.args.effects.now ++ listener_effects_at c.args.world.now (with_change change c.args.world.now)) (sym c.in-OfGets.is)

pub returns-in-OfLiveliness : goal.returns-in-OfLiveliness
returns-in-OfLiveliness c =
    quiet c.args.effects.now c.args.world.now.matching.listeners (present_at c.args.world.now)
    ∙ ap (λ (change : Change). c.args.effects.now ++ listener_effects_at c.args.world.now (with_change change c.args.world.now)) (sym c.in-OfLiveliness.is)

pub returns-in-OfValues : goal.returns-in-OfValues
returns-in-OfValues c =
    quiet c.args.effects.now c.args.world.now.matching.listeners (present_at c.args.world.now)
    ∙ ap (λ (change : Change). c.args.effects.now ++ listener_effects_at c.args.world.now (with_change change c.args.world.now)) (sym c.in-OfValues.is)

pub returns-in-OfCancellation : goal.returns-in-OfCancellation
returns-in-OfCancellation c =
    quiet c.args.effects.now c.args.world.now.matching.listeners (present_at c.args.world.now)
    ∙ ap (λ (change : Change). c.args.effects.now ++ listener_effects_at c.args.world.now (with_change change c.args.world.now)) (sym c.in-OfCancellation.is)
