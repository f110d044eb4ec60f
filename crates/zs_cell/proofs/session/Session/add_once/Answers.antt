use Rattle.std.proofs.Common.{refl, ap, sym, subst, IfOk, ◌∙◌}
use Rattle.std.specs.Prelude.{OnOk}
use Rattle.zs_events.specs.declared.event.Event.{Event}
use Rattle.zs_hands.specs.Answers.{AreOfRoom}
use Rattle.zs_cell.specs.Further.{Adds}
use Rattle.zs_cell.specs.Places.{SessionPlace}
use Rattle.zs_cell.specs.Works.{WorkSeen}
use Rattle.zs_cell.proofs.session.Session.add_once.Goals as goal

pub returns-in_default-clause-err : goal.returns-in_default-clause-err
returns-in_default-clause-err g c = refl

pub put-requires : goal.put-requires
put-requires g c = c.take_more-adding.ensures.room ∙ (c.take-held.ensures.fact ∙ sym (ap (λ lock. lock.key) c.take-held.ensures.lock))

pub returns-clause-ok : goal.returns-clause-ok
returns-clause-ok g c =
    subst (λ (e : Event). OnOk c.take_more-adding.result (Adds g.B.Entries.EntryLedger.settings e c.args.caller.now c.take_more-adding.new.caller)) c.in-Ok.ensures c.take_more-adding.ensures.ok

pub returns-clause-lents : goal.returns-clause-lents
returns-clause-lents g c =
    let key = c.take-held.ensures.fact ∙ (ap (λ inner. inner.lock.key) c.deref.ensures ∙ ap (λ (s : SessionPlace). s.lock.key) c.self.view_is) in
    subst (λ room. IfOk c.take_more-adding.result (λ (work : WorkSeen _). AreOfRoom room work.lents)) key c.take_more-adding.ensures.lents

pub returns-clause-waits : goal.returns-clause-waits
returns-clause-waits g c = c.take_more-adding.ensures.waits

pub returns-clause-err : goal.returns-clause-err
returns-clause-err g c = c.take_more-adding.ensures.err
