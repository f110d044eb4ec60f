use Rattle.std.proofs.Common.{List, ap, ◌∙◌}
use Rattle.zs_tables.specs.declared.listener.Listener.{Listener}
use Rattle.zs_entity_tables.specs.MatchingTables.{Kept, shown}
use Rattle.zs_entity_tables.proofs.Counted.{rows_set}
use Rattle.zs_entity_tables.proofs.matching.Matching.recount.Goals as goal

pub returns-clause-rows : goal.returns-clause-rows
returns-clause-rows c =
    let kept : Kept = record { listeners = c.self.inside.listeners; left = c.self.inside.left; remote_entities = c.self.inside.remote_entities } in
    ap (λ (ls : List Listener). shown (record { listeners = ls; left = c.self.inside.left; remote_entities = c.self.inside.remote_entities })) c.recount.ensures ∙ rows_set kept c.args.all.now ∙ ap shown c.self.view_is
