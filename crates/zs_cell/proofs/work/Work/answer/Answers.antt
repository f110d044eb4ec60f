use Rattle.std.proofs.Common.{ap, ◌∙◌}
use Rattle.zs_events.specs.declared.turn.Turn.{Turn}
use Rattle.zs_cell.specs.Works.{WorkSeen}
use Rattle.zs_cell.proofs.work.Work.answer.Goals as goal

pub returns : goal.returns
returns g c = ap (λ (t : Turn). t.answer) c.turn.ensures ∙ ap (λ (w : WorkSeen _). w.answer) c.self.view_is
