use Rattle.std.proofs.Common.{rules}
use Rattle.std.proofs.lemmas.Fn.{filter_same}
use Rattle.zs_tables.specs.declared.queryable.QueryableRow.{QueryableRow}
use Rattle.zs_keyed.specs.Keyed.{passes_by}
use Rattle.zs_tables.specs.Queryables.{answers_whole}
use Rattle.zs_tables.proofs.queryable_table.keep_complete.Goals as goal

pub returns : goal.returns
returns c =
    filter_same _ (passes_by (λ (row : QueryableRow). row.id) (answers_whole c.args.key.now.text) c.args.rows.now) _ (λ x b f' k. search rules) _ _ c.retain.ensures.filtered
