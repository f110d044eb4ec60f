use Rattle.std.proofs.Common.{◌≡◌, true, false, ◌∙◌}
use Rattle.std.specs.Prelude.{◌&&◌, map, filter}
use Rattle.zs_keys.specs.Matching.{intersects}
use Rattle.zs_tables.specs.declared.remote_row.RemoteQueryable.{RemoteQueryable}
use Rattle.zs_tables.specs.RemoteEntities.{answers, is_whole}
use Rattle.zs_subscriptions.proofs.ByKey.{kept}
use Rattle.zs_tables.proofs.Answering.{map_agree, remote_whole_is_for, remote_meets_is_for}
use Rattle.zs_tables.proofs.remote_table.RemoteTable.answering_into.Goals as goal

pub returns-clause-ok : goal.returns-clause-ok
returns-clause-ok c =
    let text = c.args.key.now.text in
    let whole : c.args.complete ≡ true = cc in
    rw (← c.self.view_is)
    (kept (λ (row : RemoteQueryable). row.number) (λ row. row.key.text) (is_whole text) text c.self.inside.queryables _ _ c.matches_into-2.ensures.ascending c.in_ok-matches_into.ensures.ok c.keep_complete.ensures
    ∙ map_agree (λ (row : RemoteQueryable). row.number) (λ row. is_whole text row && intersects text row.key.text) (answers c.args.complete text) (remote_whole_is_for c.args.complete text whole) c.self.inside.queryables)

pub returns-then-not-complete-clause-ok : goal.returns-then-not-complete-clause-ok
returns-then-not-complete-clause-ok c =
    let text = c.args.key.now.text in
    let all : c.args.complete ≡ false = cc in
    let same = map_agree (λ (row : RemoteQueryable). row.number) (λ row. intersects text row.key.text) (answers c.args.complete text) (remote_meets_is_for c.args.complete text all) c.self.inside.queryables in
    rw (← c.self.view_is, ← same) c.matches_into.ensures.ok
