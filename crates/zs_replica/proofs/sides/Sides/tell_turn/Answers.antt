use Rattle.std.proofs.Common.{refl}
use Rattle.zs_printing.specs.Printing.{line, answer_fields}
use Rattle.zs_replica.specs.declared.sides.Sides.{Sides}
use Rattle.zs_replica.specs.Told.{with_text, with_effects_told}
use Rattle.zs_replica.specs.Sides.{Becomes}
use Rattle.zs_replica.proofs.Steps.{on_ok, prints, then_becomes}
use Rattle.zs_replica.proofs.sides.Sides.tell_turn.Goals as goal

pub returns : goal.returns
returns c =
    let number = c.args.number in
    let side = c.args.side in
    let turn = c.args.turn.now in
    let mid : Sides = record c.args.self.now { printed = c.append_answer.new.out } in
    let new = c.tell.new.self in
    on_ok c.tell.result (Becomes (λ s t. with_effects_told s number side turn.effects t) mid new) _
    (then_becomes (λ s t. with_text (line number (answer_fields turn.answer)) t) (λ s t. with_effects_told s number side turn.effects t) c.args.self.now mid new
    (prints (line number (answer_fields turn.answer)) c.args.self.now mid refl c.in_ok-append_answer.ensures))
    c.tell.ensures
