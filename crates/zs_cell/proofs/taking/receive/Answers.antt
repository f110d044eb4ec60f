use Rattle.std.proofs.Common.{Some, ap, ◌∙◌}
use Rattle.zs_held.specs.Receipts.{ReceiptSeen}
use Rattle.zs_cell.proofs.taking.receive.Goals as goal

pub work_of-work-requires : goal.work_of-work-requires
work_of-work-requires g c = c.requires

pub returns-clause-answer : goal.returns-clause-answer
returns-clause-answer g c = c.work_of-work.ensures.answer

pub returns-clause-back : goal.returns-clause-back
returns-clause-back g c = c.work_of-work.ensures.back

pub returns-clause-lents : goal.returns-clause-lents
returns-clause-lents g c = c.work_of-work.ensures.lents

pub returns-clause-none : goal.returns-clause-none
returns-clause-none g c = c.work_of-work.ensures.none

pub returns-clause-refused : goal.returns-clause-refused
returns-clause-refused g c = c.work_of-work.ensures.refused

pub returns-clause-room : goal.returns-clause-room
returns-clause-room g c = c.work_of-work.ensures.room

pub returns-clause-caller : goal.returns-clause-caller
returns-clause-caller g c = c.keep.ensures ∙ ap (λ (r : ReceiptSeen). record c.args.caller.now { last = Some r }) c.work_of-work.ensures.asked
