use Rattle.zs_core.specs.Settings.{default_settings}
use Rattle.zs_replica.proofs.laws.runs_show_gets.Goals as goal

pub returns : goal.returns
returns c = record {
  best = c.newest_is_best.ensures;
  hands = λ rows.
      c.gets_show_newest.ensures default_settings rows (tt, tt) c.default_sessions_start.ensures.first c.default_sessions_start.ensures.second c.default_sessions_answer.ensures.first
      c.default_sessions_answer.ensures.second;
  prints = λ row rows said number is. c.lines_print_gets.ensures default_settings row rows said number is;
}
