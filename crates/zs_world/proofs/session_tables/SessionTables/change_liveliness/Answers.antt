use Rattle.zs_entity_tables.proofs.Bounds.{below_weaker}
use Rattle.zs_world.proofs.session_tables.SessionTables.change_liveliness.Goals as goal

pub invariant_of-self-2 : goal.invariant_of-self-2
invariant_of-self-2 c =
    below_weaker c.self.inside.next_entity c.next_behind-next.result c.self.inside.tables.rows c.self.inside.publishers c.self.inside.queryables c.self.inside.queriers c.self.inside.matching.remote_entities c.self.inside.matching.listeners
    c.next_behind-next.ensures.up c.self.invariant
