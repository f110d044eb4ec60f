use Rattle.std.proofs.Common.{None, is_some, map, option_map, ap, ◌∙◌}
use Rattle.zs_posts.specs.Calls.{call_seen, all_lents}
use Rattle.zs_session_cell.specs.Journals.{HandingSeen}
use Rattle.zs_cell.specs.Works.{WorkSeen}
use Rattle.zs_cell.proofs.work.Work.refused.Goals as goal

pub returns-clause-back : goal.returns-clause-back
returns-clause-back g c = c.refused.ensures.back ∙ ap (λ (w : WorkSeen _). w.back) c.self.view_is

pub returns-clause-rest : goal.returns-clause-rest
returns-clause-rest g c =
    ap (λ (h : HandingSeen _). record { answer = h.turn.answer; back = h.back; lents = all_lents (map call_seen h.calls); waits = is_some c.self.inside.closing; gate = option_map (λ x. x.draining.gate) c.self.inside.closing }) c.refused.ensures.rest
    ∙ ap (λ (w : WorkSeen _). record w { back = None }) c.self.view_is
