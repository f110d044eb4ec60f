use Rattle.zs_core.specs.Settings.{default_settings}
use Rattle.zs_groups.proofs.laws.runs_show_members.Goals as goal

pub returns : goal.returns
returns c = λ rows. c.views_show_members.ensures default_settings rows (tt, tt) c.default_sessions_start.ensures.first c.default_sessions_start.ensures.second
