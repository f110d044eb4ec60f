use Rattle.std.proofs.Common.{sym}
use Rattle.std.specs.Prelude.{◌==◌, map}
use Rattle.zs_tables.specs.declared.listener.ListenerRow.{ListenerRow}
use Rattle.zs_tables.specs.declared.listener.Listener.{Listener}
use Rattle.zs_tables.specs.Matching.{candidates}
use Rattle.zs_subscriptions.proofs.Ascending.{ascend_map}
use Rattle.zs_world.proofs.Hearing.{between_without}
use Rattle.zs_hearing.proofs.listeners.hear_querier_end.Goals as goal

pub returns : goal.returns
returns c =
    let s = c.world.inside in
    let ls = s.matching.listeners in
    let up = ascend_map (λ (row : ListenerRow). row.id) (λ (l : Listener). l.row) ls (rw c.listeners.ensures at c.push_ends_of.ensures.ascending) in
    let ended = between_without (λ (row : ListenerRow). row.parent == c.args.id) (map (λ (l : Listener). l.row) ls) (candidates s.tables.rows s.queryables s.matching.remote_entities) up in
    rw (← c.world.view_is) (rw (c.listeners.ensures, sym ended) at c.push_ends_of.ensures.ends)
