use Rattle.std.proofs.Common.{◌∙◌}
use Rattle.zs_subscriptions.proofs.Numbering.{number_there}
use Rattle.zs_subscriptions.proofs.number_rows.NumberRows.has.Goals as goal

pub returns : goal.returns
returns c = (rw c.from.ensures at c.has.ensures) ∙ number_there c.args.number c.self.inside.rows c.args.self.now c.self.invariant c.self.view_is
