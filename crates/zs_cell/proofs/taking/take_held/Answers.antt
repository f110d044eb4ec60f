use Rattle.std.proofs.Common.{[], List, option_map, ap, sym, subst, ◌∙◌}
use Rattle.std.specs.Arc.{arc_value}
use Rattle.zs_events.specs.declared.turn.Answer.{Answer}
use Rattle.zs_events.specs.Turn.{was_refused}
use Rattle.zs_posts.specs.Passes.{LentSeen}
use Rattle.zs_hands.specs.Answers.{AreOfRoom}
use Rattle.zs_session_cell.specs.Journals.{history}
use Rattle.zs_cell.specs.Steps.{IsNumbered}
use Rattle.zs_cell.specs.Works.{back_at}
use Rattle.zs_held.specs.Receipts.{ReceiptSeen}
use Rattle.zs_cell.proofs.Stepping.{takes, turn_follows, numbered}
use Rattle.zs_cell.proofs.taking.take_held.Goals as goal

pub take-requires : goal.take-requires
take-requires g c = c.requires

pub receive-requires : goal.receive-requires
receive-requires g c = ap (λ (r : ReceiptSeen). r.asked) c.in-Ok.ensures.receipt

pub returns-in-Ok-clause-ok : goal.returns-in-Ok-clause-ok
returns-in-Ok-clause-ok g c =
    let s = g.B.Entries.EntryLedger.settings in
    let journal = c.args.held.now.session.journal in
    takes s journal c.args.key c.receive.result.waits c.in-Ok.given.1
    (turn_follows s journal c.take.new.self.session.journal c.args.event c.in-Ok.given.0.turn c.journal.ensures.turns c.in-Ok.ensures.ok.journal_is) c.in-Ok.ensures.receipt c.in-Ok.ensures.caller c.receive.ensures.caller
    c.receive.ensures.answer

pub returns-in-Ok-clause-numbered : goal.returns-in-Ok-clause-numbered
returns-in-Ok-clause-numbered g c =
    let session = c.args.held.now.session in
    subst (λ (a : Answer). IsNumbered c.args.event a) (sym c.receive.ensures.answer) (numbered session.settings (history [] session.journal) c.args.event c.in-Ok.given.0.turn c.numbers_are_told.ensures c.in-Ok.ensures.ok.turn_is)

pub returns-in-Ok-clause-back : goal.returns-in-Ok-clause-back
returns-in-Ok-clause-back g c =
    c.receive.ensures.back ∙ (c.in-Ok.ensures.refused ∙ ap (λ (a : Answer). back_at a (option_map arc_value c.args.handler)) (sym c.receive.ensures.answer))

pub returns-in-Ok-clause-lents : goal.returns-in-Ok-clause-lents
returns-in-Ok-clause-lents g c = subst (λ (ls : List LentSeen). AreOfRoom c.args.held.now.session.exchange.posts.room ls) (sym c.receive.ensures.lents) c.in-Ok.ensures.lents

pub returns-in-Ok-clause-none : goal.returns-in-Ok-clause-none
returns-in-Ok-clause-none g c = c.receive.ensures.none

pub returns-in-Ok-clause-closing : goal.returns-in-Ok-clause-closing
returns-in-Ok-clause-closing g c = λ was. c.receive.ensures.refused (ap was_refused (sym c.receive.ensures.answer) ∙ was)

pub returns-in-Ok-clause-room : goal.returns-in-Ok-clause-room
returns-in-Ok-clause-room g c = c.receive.ensures.room ∙ c.in-Ok.ensures.room

pub returns-in-Err-clause-room : goal.returns-in-Err-clause-room
returns-in-Err-clause-room g c = c.in-Err.ensures.room

pub returns-in-Err-clause-handler : goal.returns-in-Err-clause-handler
returns-in-Err-clause-handler g c = c.not_now.ensures ∙ c.in-Err.ensures.back.1

pub returns-in-Err-clause-err : goal.returns-in-Err-clause-err
returns-in-Err-clause-err g c = c.in-Err.ensures.kept
