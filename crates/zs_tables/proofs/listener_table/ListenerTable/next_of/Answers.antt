use Rattle.zs_tables.proofs.Parents.{next_listener}
use Rattle.zs_tables.proofs.listener_table.ListenerTable.next_of.Goals as goal

pub returns-clause-next : goal.returns-clause-next
returns-clause-next c =
    rw (← c.self.view_is)
    (rw c.from.ensures at (next_listener c.from.result c.args.after c.next_of.result c.self.inside.rows c.self.inside.parents c.len-ascending.ensures.ascending c.self.invariant c.next_of.ensures.ascending c.next_of.ensures.next))

pub returns-clause-ascending : goal.returns-clause-ascending
returns-clause-ascending c = rw (← c.self.view_is) c.len-ascending.ensures.ascending
