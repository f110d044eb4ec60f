use Rattle.std.proofs.Common.{is_some, ap, ◌∙◌}
use Rattle.zs_cell.specs.Further.{asks_queryables}
use Rattle.zs_cell.proofs.Further.{accepts, refuses, steps_of}
use Rattle.zs_cell.proofs.session.Session.step_shared.Goals as goal

pub returns-in-Ok-clause-ok : goal.returns-in-Ok-clause-ok
returns-in-Ok-clause-ok g c =
    let is = c.asks_queryables-asks.ensures ∙ ap asks_queryables c.get.ensures in
    accepts c.in-Ok.work.answer c.args.key c.in-Ok.work.waits c.answer.result (λ s. s.number) (λ s. is_some s.closing) c.answer.ensures.number c.answer.ensures.closing
    (steps_of g.H.Handler.evicts c.asks_queryables-asks.result is c.in-Ok.ensures.ok c.answer.ensures.further c.answer.ensures.kept)

pub returns-in-Ok-clause-err : goal.returns-in-Ok-clause-err
returns-in-Ok-clause-err g c =
    let is = c.asks_queryables-asks.ensures ∙ ap asks_queryables c.get.ensures in
    refuses c.in-Ok.work.answer c.args.key c.in-Ok.work.waits c.answer.result (λ b. b.why) c.answer.ensures.refusal
    (steps_of g.H.Handler.evicts c.asks_queryables-asks.result is c.in-Ok.ensures.ok c.answer.ensures.further c.answer.ensures.kept)
