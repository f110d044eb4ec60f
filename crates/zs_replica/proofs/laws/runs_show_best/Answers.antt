use Rattle.zs_core.specs.Settings.{default_settings}
use Rattle.zs_replica.proofs.laws.runs_show_best.Goals as goal

pub returns : goal.returns
returns c = λ rows. c.dumps_show_best.ensures default_settings rows (tt, tt) c.default_sessions_start.ensures.first c.default_sessions_start.ensures.second
