use Rattle.zs_query.specs.Asked.{QuerierEnds}
use Rattle.zs_query.proofs.Tabling.{below_after}
use Rattle.zs_query.proofs.get_table.GetTable.end_querier.Goals as goal

pub invariant_of-self : goal.invariant_of-self
invariant_of-self c = rw c.end_querier.ensures (below_after c.self.inside.next (QuerierEnds c.args.id) c.self.inside.gets c.self.invariant)
