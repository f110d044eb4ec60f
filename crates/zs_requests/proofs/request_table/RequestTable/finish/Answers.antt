use Rattle.zs_requests.proofs.Drawing.{below_finished}
use Rattle.zs_requests.proofs.request_table.RequestTable.finish.Goals as goal

pub invariant_of-self : goal.invariant_of-self
invariant_of-self c = rw c.finish.ensures.values (below_finished c.self.inside.next c.args.value c.self.inside.requests.values c.self.invariant)
