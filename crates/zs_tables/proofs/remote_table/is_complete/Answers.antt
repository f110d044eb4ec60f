use Rattle.std.proofs.Common.{ap, ◌∙◌}
use Rattle.zs_tables.specs.declared.remote_row.RemoteQueryable.{RemoteQueryable}
use Rattle.zs_tables.specs.RemoteEntities.{is_whole}
use Rattle.zs_subscriptions.proofs.ByKey.{passed, passes_found}
use Rattle.zs_tables.proofs.remote_table.is_complete.Goals as goal

pub returns-in_default : goal.returns-in_default
returns-in_default c =
    let test = is_whole c.args.key.now.text in
    ap (passed test) c.in_default.ensures ∙ passes_found (λ (row : RemoteQueryable). row.number) test c.args.number c.args.rows.now c.requires

pub returns : goal.returns
returns c =
    let test = is_whole c.args.key.now.text in
    c.is_whole.ensures ∙ (ap (passed test) c.in-Some.ensures ∙ passes_found (λ (row : RemoteQueryable). row.number) test c.args.number c.args.rows.now c.requires)
