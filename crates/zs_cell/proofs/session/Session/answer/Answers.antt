use Rattle.std.proofs.Common.{List, ap, sym, subst}
use Rattle.zs_posts.specs.Passes.{LentSeen}
use Rattle.zs_hands.specs.Answers.{AreOfRoom}
use Rattle.zs_cell.specs.Works.{WorkSeen}
use Rattle.zs_cell.proofs.Further.{none_come}
use Rattle.zs_cell.proofs.session.Session.answer.Goals as goal

pub settle-reports-requires : goal.settle-reports-requires
settle-reports-requires g c =
    let key = c.args.self.now.lock.key in
    c.run-worked.ensures.room key (subst (λ (ls : List LentSeen). AreOfRoom key ls) (sym (ap (λ (w : WorkSeen _). w.lents) c.refused-handler.ensures.rest)) c.requires.lents)

pub returns-in-Ok-clause-kept : goal.returns-in-Ok-clause-kept
returns-in-Ok-clause-kept g c =
    let tag = c.args.self.now.tag in
    λ no so. c.give_up.ensures.none (none_come tag c.args.asks _ _ c.settle-reports.ensures so (c.run-worked.ensures.kept no tag))

pub returns-in-None-clause-kept : goal.returns-in-None-clause-kept
returns-in-None-clause-kept g c =
    let tag = c.args.self.now.tag in
    λ no so. c.give_up.ensures.none (none_come tag c.args.asks _ _ c.settle-reports.ensures so (c.run-worked.ensures.kept no tag))
