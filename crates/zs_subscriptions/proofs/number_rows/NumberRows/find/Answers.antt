use Rattle.std.proofs.Common.{◌∙◌}
use Rattle.zs_subscriptions.proofs.Numbering.{number_at_row, numbers_up}
use Rattle.zs_subscriptions.proofs.number_rows.NumberRows.find.Goals as goal

pub returns-clause-row : goal.returns-clause-row
returns-clause-row c = (rw c.from.ensures at c.find.ensures) ∙ number_at_row c.args.number c.self.inside.rows c.args.self.now c.self.invariant c.self.view_is

pub returns-clause-ascending : goal.returns-clause-ascending
returns-clause-ascending c = numbers_up c.self.inside.rows c.args.self.now c.self.invariant c.self.view_is
