use Rattle.std.proofs.Common.{ap, ◌∙◌}
use Rattle.zs_tables.specs.declared.queryable.QueryableRow.{QueryableRow}
use Rattle.zs_tables.specs.Queryables.{is_for}
use Rattle.zs_subscriptions.proofs.ByKey.{passed, passes_found}
use Rattle.zs_tables.proofs.queryable_table.is_met.Goals as goal

pub returns-in_default : goal.returns-in_default
returns-in_default c =
    let test = is_for c.args.local c.args.complete in
    ap (passed test) c.in_default.ensures ∙ passes_found (λ (row : QueryableRow). row.id) test c.args.id c.args.rows.now c.requires

pub returns : goal.returns
returns c =
    let test = is_for c.args.local c.args.complete in
    c.is_for.ensures ∙ (ap (passed test) c.in-Some.ensures ∙ passes_found (λ (row : QueryableRow). row.id) test c.args.id c.args.rows.now c.requires)
