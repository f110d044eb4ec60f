use Rattle.std.proofs.Common.{ap, sym, subst, ◌∙◌}
use Rattle.zs_hands.specs.Answers.{AreOfRoom}
use Rattle.zs_cell.specs.Works.{WorkedSeen}
use Rattle.zs_cell.proofs.work.Worked.give_back.Goals as goal

pub give_back-reports-requires : goal.give_back-reports-requires
give_back-reports-requires g c = subst (λ (w : WorkedSeen _). AreOfRoom c.args.held.now.session.exchange.posts.room w.lents) (sym c.self.view_is) c.requires

pub returns-clause-reports : goal.returns-clause-reports
returns-clause-reports g c = c.of.ensures ∙ (c.give_back-reports.ensures.reports ∙ ap (λ (w : WorkedSeen _). w.reports) c.self.view_is)

pub returns-clause-room : goal.returns-clause-room
returns-clause-room g c = c.give_back-reports.ensures.room
