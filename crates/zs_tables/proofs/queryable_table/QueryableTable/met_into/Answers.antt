use Rattle.zs_tables.specs.declared.queryable.QueryableRow.{QueryableRow}
use Rattle.zs_tables.specs.Queryables.{is_for}
use Rattle.zs_subscriptions.proofs.ByKey.{kept}
use Rattle.zs_tables.proofs.queryable_table.QueryableTable.met_into.Goals as goal

pub returns-clause-ok : goal.returns-clause-ok
returns-clause-ok c =
    let ids = c.keep_met.ensures in
    rw (← c.self.view_is)
    (kept (λ (row : QueryableRow). row.id) (λ row. row.key.text) (is_for c.args.local c.args.complete) c.args.key.now.text c.self.inside.rows _ _
    c.matches_into.ensures.ascending c.in_ok-matches_into.ensures.ok ids)
