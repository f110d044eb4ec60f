use Rattle.std.proofs.Common.{◌∙◌}
use Rattle.zs_session_cell.proofs.Taking.{plan_parts}
use Rattle.zs_session_cell.proofs.state.plan.Goals as goal

pub returns-in-Ok-copies-clause-plans : goal.returns-in-Ok-copies-clause-plans
returns-in-Ok-copies-clause-plans c =
    plan_parts c.args.core.now c.args.event.now c.in_ok-decision.decision c.in-Ok.turn c.into_parts-turn.result.1 (c.in-Ok.ensures ∙ c.into_parts-turn.ensures.turn) c.into_parts-turn.ensures.change c.in_ok-decision.ensures
