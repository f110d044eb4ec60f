use Rattle.std.proofs.Common.{Bool, not, ap, sym, is_some, ◌∙◌}
use Rattle.zs_events.specs.declared.turn.Turn.{Turn}
use Rattle.zs_events.specs.Turn.{was_refused}
use Rattle.zs_cell.specs.Works.{WorkSeen, asked_at}
use Rattle.zs_cell.proofs.taking.work_of.Goals as goal

pub drain_if-closing-requires : goal.drain_if-closing-requires
drain_if-closing-requires g c = c.requires

pub returns-clause-answer : goal.returns-clause-answer
returns-clause-answer g c = ap (λ (w : WorkSeen _). w.answer) c.of.ensures

pub returns-clause-back : goal.returns-clause-back
returns-clause-back g c = ap (λ (w : WorkSeen _). w.back) c.of.ensures

pub returns-clause-lents : goal.returns-clause-lents
returns-clause-lents g c = ap (λ (w : WorkSeen _). w.lents) c.of.ensures

pub returns-clause-none : goal.returns-clause-none
returns-clause-none g c = λ is. ap (λ (w : WorkSeen _). w.waits) c.of.ensures ∙ ap is_some (c.drain_if-closing.ensures.none is)

pub returns-clause-refused : goal.returns-clause-refused
returns-clause-refused g c =
    λ was. ap (λ (w : WorkSeen _). w.waits) c.of.ensures ∙ ap is_some (c.drain_if-closing.ensures.refused (ap not (c.is_refused-accepted.ensures ∙ (ap (λ (t : Turn). was_refused t.answer) c.turn.ensures ∙ was))))

pub returns-clause-asked : goal.returns-clause-asked
returns-clause-asked g c =
    let was = c.is_refused-accepted.ensures ∙ ap (λ (t : Turn). was_refused t.answer) c.turn.ensures in
    let held = ap (λ (w : WorkSeen _). w.waits) c.of.ensures in
    c.drain_if-closing.ensures.asked
    ∙ (ap (λ (b : Bool). record c.args.receipt.now { asked = asked_at (not b) c.args.key (is_some c.drain_if-closing.result) c.args.receipt.now.asked }) was
    ∙ ap (λ (b : Bool). record c.args.receipt.now { asked = asked_at (not (was_refused c.args.handing.turn.answer)) c.args.key b c.args.receipt.now.asked }) (sym held))

pub returns-clause-room : goal.returns-clause-room
returns-clause-room g c = c.drain_if-closing.ensures.room
