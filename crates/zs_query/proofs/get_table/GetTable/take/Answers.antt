use Rattle.zs_query.specs.Asked.{ReplyTo}
use Rattle.zs_query.proofs.Tabling.{below_after}
use Rattle.zs_query.proofs.get_table.GetTable.take.Goals as goal

pub invariant_of-self-2 : goal.invariant_of-self-2
invariant_of-self-2 c = rw c.in_ok-outcome.ensures.ok (below_after c.self.inside.next (ReplyTo c.args.number c.args.reply) c.self.inside.gets c.self.invariant)
