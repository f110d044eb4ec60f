use Rattle.std.proofs.Common.{◌≡◌, sym, ap, ◌∙◌}
use Rattle.zs_events.specs.Turn.{was_refused}
use Rattle.zs_events.specs.declared.turn.Turn.{Turn}
use Rattle.zs_world.specs.declared.change.Change.{Change}
use Rattle.zs_world.specs.Changes.{with_change}
use Rattle.zs_core.proofs.state.SessionState.step.Goals as goal

pub apply-requires : goal.apply-requires
apply-requires c = rw c.into_parts-turn.ensures.change c.in_ok-made.ensures.fits

pub returns-clause-ok : goal.returns-clause-ok
returns-clause-ok c =
    rw c.into_parts-turn.ensures.turn
    (c.in_ok-made.ensures.steps c.apply.new.self (c.in_ok-apply.ensures.ok ∙ ap (λ (change : Change). with_change change c.args.self.now) c.into_parts-turn.ensures.change))

pub returns-clause-refused : goal.returns-clause-refused
returns-clause-refused c = λ refused.
    c.in_ok-apply.ensures.ok ∙ ap (λ (change : Change). with_change change c.args.self.now) c.into_parts-turn.ensures.change
    ∙ c.in_ok-made.ensures.refuses (sym (ap (λ (turn : Turn). was_refused turn.answer) c.into_parts-turn.ensures.turn) ∙ refused)
