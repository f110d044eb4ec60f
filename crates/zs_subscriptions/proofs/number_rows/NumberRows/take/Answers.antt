use Rattle.std.proofs.Common.{◌∙◌}
use Rattle.zs_subscriptions.proofs.Numbering.{number_at_row, numbers_up, out_is, out_are}
use Rattle.zs_subscriptions.proofs.number_rows.NumberRows.take.Goals as goal

pub invariant_of-self : goal.invariant_of-self
invariant_of-self c = out_are c.args.number c.self.inside.rows _ c.self.invariant (rw c.from.ensures at c.remove.ensures.rows) c.remove.ensures.ascending

pub returns-clause-row : goal.returns-clause-row
returns-clause-row c = (rw c.from.ensures at c.remove.ensures.row) ∙ number_at_row c.args.number c.self.inside.rows c.args.self.now c.self.invariant c.self.view_is

pub returns-clause-rows : goal.returns-clause-rows
returns-clause-rows c = out_is c.args.number c.self.inside.rows _ c.args.self.now c.self.invariant c.self.view_is (rw c.from.ensures at c.remove.ensures.rows)

pub returns-clause-was_ascending : goal.returns-clause-was_ascending
returns-clause-was_ascending c = numbers_up c.self.inside.rows c.args.self.now c.self.invariant c.self.view_is
