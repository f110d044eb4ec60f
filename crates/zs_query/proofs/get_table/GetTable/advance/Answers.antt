use Rattle.zs_query.specs.Asked.{AtMoment}
use Rattle.zs_query.proofs.Tabling.{below_after}
use Rattle.zs_query.proofs.get_table.GetTable.advance.Goals as goal

pub invariant_of-self : goal.invariant_of-self
invariant_of-self c = rw c.note_tick.ensures (below_after c.self.inside.next (AtMoment c.args.moment) c.self.inside.gets c.self.invariant)
