use Rattle.zs_replica_lines.specs.Shown.{ends_text}
use Rattle.zs_replica.specs.Told.{letter, with_text, with_answers}
use Rattle.zs_replica.specs.Sides.{Becomes}
use Rattle.zs_replica.proofs.Steps.{on_ok, then_becomes}
use Rattle.zs_replica.proofs.sides.Sides.tell.Goals as goal

pub returns : goal.returns
returns c =
    let number = c.args.number in
    let side = c.args.side in
    let effects = c.args.effects.now in
    let mid = c.tell_ends.new.self in
    let new = c.answer.new.self in
    on_ok c.answer.result (Becomes (λ s t. with_answers s number side effects t) mid new) _
    (then_becomes (λ s t. with_text (ends_text number (letter side) effects) t) (λ s t. with_answers s number side effects t) c.args.self.now mid new c.in_ok-tell_ends.ensures)
    c.answer.ensures
