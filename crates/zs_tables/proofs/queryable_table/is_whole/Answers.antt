use Rattle.std.proofs.Common.{ap, ◌∙◌}
use Rattle.zs_tables.specs.declared.queryable.QueryableRow.{QueryableRow}
use Rattle.zs_tables.specs.Queryables.{answers_whole}
use Rattle.zs_subscriptions.proofs.ByKey.{passed, passes_found}
use Rattle.zs_tables.proofs.queryable_table.is_whole.Goals as goal

pub returns-in_default : goal.returns-in_default
returns-in_default c =
    let test = answers_whole c.args.key.now.text in
    ap (passed test) c.in_default.ensures ∙ passes_found (λ (row : QueryableRow). row.id) test c.args.id c.args.rows.now c.requires

pub returns : goal.returns
returns c =
    let test = answers_whole c.args.key.now.text in
    c.answers_whole.ensures ∙ (ap (passed test) c.in-Some.ensures ∙ passes_found (λ (row : QueryableRow). row.id) test c.args.id c.args.rows.now c.requires)
