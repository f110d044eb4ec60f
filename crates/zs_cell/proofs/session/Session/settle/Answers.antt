use Rattle.std.proofs.Common.{ap, sym, subst, ◌∙◌}
use Rattle.zs_hands.specs.Answers.{AreOfRoom}
use Rattle.zs_cell.specs.Places.{SessionPlace}
use Rattle.zs_cell.proofs.session.Session.settle.Goals as goal

pub give_back-reports-requires : goal.give_back-reports-requires
give_back-reports-requires g c =
    let key = c.take-held.ensures.fact ∙ (ap (λ inner. inner.lock.key) c.deref.ensures ∙ ap (λ (s : SessionPlace). s.lock.key) c.self.view_is) in
    subst (λ room. AreOfRoom room c.args.worked.lents) (sym key) c.requires

pub put-requires : goal.put-requires
put-requires g c = c.give_back-reports.ensures.room ∙ (c.take-held.ensures.fact ∙ sym (ap (λ lock. lock.key) c.take-held.ensures.lock))

pub returns : goal.returns
returns g c = c.give_back-reports.ensures.reports
