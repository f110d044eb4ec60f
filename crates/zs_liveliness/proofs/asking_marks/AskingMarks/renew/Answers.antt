use Rattle.std.proofs.Common.{Some, sym, ap, subst}
use Rattle.zs_rows.specs.Index.{is_marked}
use Rattle.zs_liveliness.specs.Asking.{MovesTo}
use Rattle.zs_liveliness.proofs.Marks.{moved, moved_back}
use Rattle.zs_liveliness.proofs.asking_marks.AskingMarks.renew.Goals as goal

pub returns-in-Err-clause-err : goal.returns-in-Err-clause-err
returns-in-Err-clause-err c = record {
  deadlines = moved_back (Some c.args.was.deadline) (Some c.args.is.deadline) c.args.was.number c.args.self.now.deadlines _ _ c.requires.stands.deadlines c.in_ok-note_other.ensures.ok c.forget_other.ensures;
  cancellation_tokens = λ k n. ap (is_marked k n) c.in-Err.ensures.err;
}

pub returns-clause-ok : goal.returns-clause-ok
returns-clause-ok c = record {
  deadlines = subst (λ m. MovesTo (Some c.args.is.deadline) m c.args.self.now.deadlines c.forget_other-2.new.index) (sym c.requires.same)
      (moved (Some c.args.was.deadline) (Some c.args.is.deadline) c.args.was.number c.args.self.now.deadlines _ _ c.requires.stands.deadlines c.in_ok-note_other.ensures.ok c.forget_other-2.ensures);
  cancellation_tokens = subst (λ m. MovesTo c.args.is.cancellation_token m c.args.self.now.cancellation_tokens c.forget_other-3.new.index) (sym c.requires.same)
      (moved c.args.was.cancellation_token c.args.is.cancellation_token c.args.was.number c.args.self.now.cancellation_tokens _ _ c.requires.stands.cancellation_tokens c.in_default.ensures.ok c.forget_other-3.ensures);
}
