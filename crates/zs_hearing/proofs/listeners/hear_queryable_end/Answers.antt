use Rattle.zs_tables.proofs.Moving.{queryable_goes}
use Rattle.zs_world.proofs.Hearing.{heard_between}
use Rattle.zs_hearing.proofs.listeners.hear_queryable_end.Goals as goal

pub returns : goal.returns
returns c =
    let s = c.world.inside in
    let moves = queryable_goes s.tables.rows s.queryables s.matching.remote_entities c.args.id c.len-ascending.ensures.ascending in
    let heard = heard_between _ _ _ _ s.matching.listeners moves c.world.invariant.counted in
    rw (← c.world.view_is) (rw (c.listeners.ensures, c.own_queryable_of-goes.ensures, heard) at c.push_heard.ensures)
