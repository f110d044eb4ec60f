use Rattle.std.proofs.Common.{◌≡◌, List, [], ◌∷◌, ◌++◌, ap, ◌∙◌}
use Rattle.zs_tables.specs.declared.listener.Listener.{Listener}
use Rattle.zs_entity_tables.specs.MatchingTables.{Kept, shown}
use Rattle.zs_entity_tables.proofs.Counted.{rows_more, ok_then}
use Rattle.zs_entity_tables.proofs.matching.Matching.add.Goals as goal

pub returns-clause-rows : goal.returns-clause-rows
returns-clause-rows c =
    let kept : Kept = record { listeners = c.self.inside.listeners; left = c.self.inside.left; remote_entities = c.self.inside.remote_entities } in
    let l : Listener = record { row = c.args.row; count = c.args.count } in
    ok_then c.add.result (c.add.new.self ≡ c.self.inside.listeners ++ l ∷ [])
    _
    (λ (is : c.add.new.self ≡ c.self.inside.listeners ++ l ∷ []).
    ap (λ (ls : List Listener). shown (record { listeners = ls; left = c.self.inside.left; remote_entities = c.self.inside.remote_entities })) is ∙ rows_more kept l
    ∙ ap (λ (k : Kept). record (shown k) { listeners = (shown k).listeners ++ c.args.row ∷ [] }) c.self.view_is)
    c.add.ensures.ok
