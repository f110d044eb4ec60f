use Rattle.std.proofs.Common.{List, ap, sym, subst}
use Rattle.zs_posts.specs.Passes.{LentSeen}
use Rattle.zs_hands.specs.Answers.{AreOfRoom}
use Rattle.zs_cell.specs.Works.{WorkSeen}
use Rattle.zs_cell.proofs.Further.{none_back}
use Rattle.zs_cell.proofs.work.Work.run.Goals as goal

pub returns-clause-room : goal.returns-clause-room
returns-clause-room g c =
    λ room are. c.run-ran.ensures.room room (subst (λ (ls : List LentSeen). AreOfRoom room ls) (sym (ap (λ (w : WorkSeen _). w.lents) c.self.view_is)) are)

pub returns-clause-closing : goal.returns-clause-closing
returns-clause-closing g c = ap (λ (w : WorkSeen _). w.waits) c.self.view_is

pub returns-clause-gate : goal.returns-clause-gate
returns-clause-gate g c = ap (λ (w : WorkSeen _). w.gate) c.self.view_is

pub returns-clause-kept : goal.returns-clause-kept
returns-clause-kept g c = λ no tag. none_back tag c.run-ran.result.ran.items (c.run-ran.ensures.kept no)
