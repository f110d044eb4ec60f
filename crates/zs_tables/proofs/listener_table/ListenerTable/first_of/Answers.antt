use Rattle.zs_tables.proofs.Parents.{first_listener}
use Rattle.zs_tables.proofs.listener_table.ListenerTable.first_of.Goals as goal

pub returns-clause-first : goal.returns-clause-first
returns-clause-first c =
    rw (← c.self.view_is)
    (rw c.from.ensures at (first_listener c.from.result c.first_under.result c.self.inside.rows c.self.inside.parents c.len-ascending.ensures.ascending c.self.invariant c.first_under.ensures.found))

pub returns-clause-ascending : goal.returns-clause-ascending
returns-clause-ascending c = rw (← c.self.view_is) c.len-ascending.ensures.ascending
