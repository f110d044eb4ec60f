use Rattle.std.proofs.Common.{List, ap, ◌∙◌}
use Rattle.std.specs.Prelude.{◌==◌, not, filter}
use Rattle.zs_tables.specs.declared.listener.Listener.{Listener}
use Rattle.zs_tables.specs.declared.listener.ListenerRow.{ListenerRow}
use Rattle.zs_entity_tables.specs.MatchingTables.{Kept, shown}
use Rattle.zs_entity_tables.proofs.Counted.{rows_left}
use Rattle.zs_entity_tables.proofs.matching.Matching.end_of.Goals as goal

pub returns-clause-rows : goal.returns-clause-rows
returns-clause-rows c =
    let kept : Kept = record { listeners = c.self.inside.listeners; left = c.self.inside.left; remote_entities = c.self.inside.remote_entities } in
    ap (λ (ls : List Listener). shown (record { listeners = ls; left = c.self.inside.left; remote_entities = c.self.inside.remote_entities })) c.remove_of.ensures ∙ rows_left kept (λ row. not (row.parent == c.args.parent))
    ∙ ap (λ (k : Kept). record (shown k) { listeners = filter (λ (row : ListenerRow). not (row.parent == c.args.parent)) (shown k).listeners }) c.self.view_is
