use Rattle.zs_subscriptions.proofs.Numbering.{none_are}
use Rattle.zs_subscriptions.proofs.number_rows.NumberRows.clear.Goals as goal

pub invariant_of-self : goal.invariant_of-self
invariant_of-self c = rw c.clear.ensures none_are
