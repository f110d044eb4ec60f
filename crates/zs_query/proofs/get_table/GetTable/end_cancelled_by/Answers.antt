use Rattle.zs_query.specs.Asked.{CancelledBy}
use Rattle.zs_query.proofs.Tabling.{below_after}
use Rattle.zs_query.proofs.get_table.GetTable.end_cancelled_by.Goals as goal

pub invariant_of-self : goal.invariant_of-self
invariant_of-self c = rw c.end_cancelled_by.ensures (below_after c.self.inside.next (CancelledBy c.args.cancellation_token) c.self.inside.gets c.self.invariant)
