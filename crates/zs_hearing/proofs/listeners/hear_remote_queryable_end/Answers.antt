use Rattle.zs_tables.proofs.Moving.{remote_queryable_goes}
use Rattle.zs_world.proofs.Hearing.{heard_between}
use Rattle.zs_hearing.proofs.listeners.hear_remote_queryable_end.Goals as goal

pub returns : goal.returns
returns c =
    let s = c.world.inside in
    let moves = remote_queryable_goes s.tables.rows s.queryables s.matching.remote_entities c.args.number (rw c.remote_entities.ensures at c.queryable_count-ascending.ensures.ascending) in
    let heard = heard_between _ _ _ _ s.matching.listeners moves c.world.invariant.counted in
    rw (← c.world.view_is) (rw (c.listeners.ensures, c.remote_queryable_of-goes.ensures, c.remote_entities-2.ensures, heard) at c.push_heard.ensures)
