use Rattle.std.proofs.Common.{refl, ap, sym, subst, is_some, IfOk, ◌∙◌}
use Rattle.zs_events.specs.declared.event.Event.{Event}
use Rattle.zs_turns.specs.Gates.{takes_handler}
use Rattle.zs_hands.specs.Answers.{AreOfRoom}
use Rattle.zs_cell.specs.Places.{SessionPlace}
use Rattle.zs_cell.specs.Steps.{Takes, IsNumbered, asked_for}
use Rattle.zs_cell.specs.Works.{WorkSeen}
use Rattle.zs_cell.proofs.session.Session.take_once.Goals as goal

pub returns-in_default-clause-handler : goal.returns-in_default-clause-handler
returns-in_default-clause-handler g c = refl

pub returns-in_default-clause-err : goal.returns-in_default-clause-err
returns-in_default-clause-err g c = refl

pub take_held-taking-requires : goal.take_held-taking-requires
take_held-taking-requires g c = λ came. ap (λ (e : Event). takes_handler e) c.in-Ok.ensures ∙ c.requires came

pub put-requires : goal.put-requires
put-requires g c = c.take_held-taking.ensures.room ∙ (c.take-held.ensures.fact ∙ sym (ap (λ lock. lock.key) c.take-held.ensures.lock))

pub returns-clause-ok : goal.returns-clause-ok
returns-clause-ok g c =
    subst (λ (e : Event). IfOk c.take_held-taking.result (λ (work : WorkSeen _). Takes g.B.Entries.EntryLedger.settings c.args.caller.now e (is_some c.args.handler) work.answer (asked_for work.answer c.args.key work.waits) c.take_held-taking.new.caller)) c.in-Ok.ensures c.take_held-taking.ensures.ok

pub returns-clause-numbered : goal.returns-clause-numbered
returns-clause-numbered g c =
    subst (λ (e : Event). IfOk c.take_held-taking.result (λ (work : WorkSeen _). IsNumbered e work.answer)) c.in-Ok.ensures c.take_held-taking.ensures.numbered

pub returns-clause-back : goal.returns-clause-back
returns-clause-back g c = c.take_held-taking.ensures.back

pub returns-clause-lents : goal.returns-clause-lents
returns-clause-lents g c =
    let key = c.take-held.ensures.fact ∙ (ap (λ inner. inner.lock.key) c.deref.ensures ∙ ap (λ (s : SessionPlace). s.lock.key) c.self.view_is) in
    subst (λ room. IfOk c.take_held-taking.result (λ (work : WorkSeen _). AreOfRoom room work.lents)) key c.take_held-taking.ensures.lents

pub returns-clause-none : goal.returns-clause-none
returns-clause-none g c = c.take_held-taking.ensures.none

pub returns-clause-closing : goal.returns-clause-closing
returns-clause-closing g c = c.take_held-taking.ensures.closing

pub returns-clause-handler : goal.returns-clause-handler
returns-clause-handler g c = c.take_held-taking.ensures.handler

pub returns-clause-err : goal.returns-clause-err
returns-clause-err g c = c.take_held-taking.ensures.err
