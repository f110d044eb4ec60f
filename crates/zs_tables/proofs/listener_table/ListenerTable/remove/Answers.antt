use Rattle.std.proofs.Common.{ap, ◌∙◌}
use Rattle.std.specs.Prelude.{◌==◌, is_some}
use Rattle.zs_tables.specs.Matching.{Listener}
use Rattle.zs_subscriptions.proofs.ByKey.{found_any}
use Rattle.zs_tables.proofs.Parents.{indexed_less, indexed_same}
use Rattle.zs_tables.proofs.listener_table.ListenerTable.remove.Goals as goal

pub invariant_of-self : goal.invariant_of-self
invariant_of-self c = indexed_same c.args.id c.self.inside.rows c.take.new.self c.self.inside.parents c.self.invariant c.in_default.ensures.answer c.take.ensures.rows

pub invariant_of-self-2 : goal.invariant_of-self-2
invariant_of-self-2 c =
    indexed_less c.args.id c.in-Some.listener c.self.inside.rows c.take.new.self c.self.inside.parents c.forget.new.self c.self.invariant c.in-Some.ensures.answer c.in-Some.ensures.rows
    (rw c.from.ensures at c.forget.ensures)

pub returns-in_default-clause-answer : goal.returns-in_default-clause-answer
returns-in_default-clause-answer c = rw (← c.self.view_is) (ap is_some c.in_default.ensures.answer ∙ found_any (λ (l : Listener). l.row.id == c.args.id) c.self.inside.rows)

pub returns-clause-answer : goal.returns-clause-answer
returns-clause-answer c = rw (← c.self.view_is) (ap is_some c.in-Some.ensures.answer ∙ found_any (λ (l : Listener). l.row.id == c.args.id) c.self.inside.rows)
