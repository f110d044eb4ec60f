use Rattle.std.proofs.Common.{◌≡◌, [], List, true, false, sym, subst}
use Rattle.zs_posts.specs.Passes.{LentSeen}
use Rattle.zs_hands.specs.Answers.{AreOfRoom}
use Rattle.zs_session_cell.specs.Journals.{history}
use Rattle.zs_cell.proofs.Stepping.{turn_follows}
use Rattle.zs_cell.proofs.taking.take_more.Goals as goal

pub take-requires : goal.take-requires
take-requires g c = λ came. let wrong : false ≡ true = came in cc

pub returns-in-Ok-clause-ok : goal.returns-in-Ok-clause-ok
returns-in-Ok-clause-ok g c =
    let journal = c.args.held.now.session.journal in
    record {
      before = history [] journal;
      turn = c.in-Ok.given.0.turn;
      turn_is = turn_follows g.B.Entries.EntryLedger.settings journal c.take.new.self.session.journal c.args.event c.in-Ok.given.0.turn c.journal.ensures.turns c.in-Ok.ensures.ok.journal_is;
      caller_is = c.in-Ok.ensures.caller;
    }

pub returns-in-Ok-clause-lents : goal.returns-in-Ok-clause-lents
returns-in-Ok-clause-lents g c = subst (λ (ls : List LentSeen). AreOfRoom c.args.held.now.session.exchange.posts.room ls) (sym c.without_receipt.ensures.lents) c.in-Ok.ensures.lents

pub returns-in-Ok-clause-waits : goal.returns-in-Ok-clause-waits
returns-in-Ok-clause-waits g c = c.without_receipt.ensures.waits

pub returns-in-Ok-clause-room : goal.returns-in-Ok-clause-room
returns-in-Ok-clause-room g c = c.in-Ok.ensures.room

pub returns-in-Err-clause-room : goal.returns-in-Err-clause-room
returns-in-Err-clause-room g c = c.in-Err.ensures.room

pub returns-in-Err-clause-err : goal.returns-in-Err-clause-err
returns-in-Err-clause-err g c = c.in-Err.ensures.kept
