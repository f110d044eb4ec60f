use Rattle.std.proofs.Common.{◌≤◌, ◌+◌, arith}
use Rattle.zs_entity_tables.proofs.Bounds.{below_weaker}
use Rattle.zs_world.proofs.session_tables.SessionTables.add_token.Goals as goal

pub invariant_of-self-2 : goal.invariant_of-self-2
invariant_of-self-2 c =
    let up : c.self.inside.next_entity ≤ c.self.inside.next_entity + 1 = omega arith in
    below_weaker c.self.inside.next_entity (c.self.inside.next_entity + 1) c.self.inside.tables.rows c.self.inside.publishers c.self.inside.queryables c.self.inside.queriers c.self.inside.matching.remote_entities c.self.inside.matching.listeners
    up c.self.invariant
