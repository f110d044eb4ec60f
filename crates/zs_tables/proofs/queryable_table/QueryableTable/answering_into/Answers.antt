use Rattle.std.proofs.Common.{◌≡◌, true, false, ◌∙◌}
use Rattle.std.specs.Prelude.{◌&&◌, map, filter}
use Rattle.zs_keys.specs.Matching.{intersects}
use Rattle.zs_tables.specs.declared.queryable.QueryableRow.{QueryableRow}
use Rattle.zs_tables.specs.Queryables.{answers_for, answers_whole}
use Rattle.zs_subscriptions.proofs.ByKey.{kept}
use Rattle.zs_tables.proofs.Answering.{map_agree, whole_is_for, meets_is_for}
use Rattle.zs_tables.proofs.queryable_table.QueryableTable.answering_into.Goals as goal

pub returns-clause-ok : goal.returns-clause-ok
returns-clause-ok c =
    let text = c.args.key.now.text in
    let ids = c.keep_complete.ensures in
    let whole : c.args.complete ≡ true = cc in
    rw (← c.self.view_is)
    (kept (λ (row : QueryableRow). row.id) (λ row. row.key.text) (answers_whole text) text c.self.inside.rows _ _ c.matches_into-2.ensures.ascending c.in_ok-matches_into.ensures.ok ids
    ∙ map_agree (λ (row : QueryableRow). row.id) (λ row. answers_whole text row && intersects text row.key.text) (answers_for c.args.complete text) (whole_is_for c.args.complete text whole) c.self.inside.rows)

pub returns-then-not-complete-clause-ok : goal.returns-then-not-complete-clause-ok
returns-then-not-complete-clause-ok c =
    let text = c.args.key.now.text in
    let all : c.args.complete ≡ false = cc in
    let same = map_agree (λ (row : QueryableRow). row.id) (λ row. intersects text row.key.text) (answers_for c.args.complete text) (meets_is_for c.args.complete text all) c.self.inside.rows in
    rw (← c.self.view_is, ← same) c.matches_into.ensures.ok
