use Rattle.zs_tables.proofs.Parents.{indexed_counted}
use Rattle.zs_tables.proofs.listener_table.ListenerTable.set_count.Goals as goal

pub invariant_of-self : goal.invariant_of-self
invariant_of-self c = indexed_counted c.args.one.now c.self.inside.rows c.set_count.new.self c.self.inside.parents c.self.invariant c.set_count.ensures
