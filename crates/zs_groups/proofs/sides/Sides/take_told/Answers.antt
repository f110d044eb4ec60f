use Rattle.std.proofs.Common.{subst}
use Rattle.zs_events.specs.declared.turn.Turn.{Turn}
use Rattle.zs_groups.specs.Told.{with_answer}
use Rattle.zs_groups.specs.Sides.{Becomes}
use Rattle.zs_groups.proofs.Steps.{takes_then, on_ok}
use Rattle.zs_groups.proofs.sides.Sides.take_told.Goals as goal

pub returns : goal.returns
returns c =
    let number = c.args.number in
    let side = c.args.side in
    let mid = c.take.new.self in
    let new = c.tell_answer-told.new.self in
    on_ok c.tell_answer-told.result (Becomes (λ s t. with_answer number c.get.result.now t) mid new) _
    (λ told. takes_then side c.args.event.now (λ s turn t. with_answer number turn t) c.args.self.now mid new c.in_ok-turn.turn
    c.in_ok-turn.ensures (subst (λ (turn : Turn). Becomes (λ s t. with_answer number turn t) mid new) c.get.ensures told))
    c.tell_answer-told.ensures
