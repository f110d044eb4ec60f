use Rattle.std.proofs.Common.{rules}
use Rattle.std.proofs.lemmas.Fn.{filter_same}
use Rattle.zs_tables.specs.declared.remote_row.RemoteQueryable.{RemoteQueryable}
use Rattle.zs_keyed.specs.Keyed.{passes_by}
use Rattle.zs_tables.specs.RemoteEntities.{is_whole}
use Rattle.zs_tables.proofs.remote_table.keep_complete.Goals as goal

pub returns : goal.returns
returns c =
    filter_same _ (passes_by (λ (row : RemoteQueryable). row.number) (is_whole c.args.key.now.text) c.args.rows.now) _ (λ x b f' k. search rules) _ _ c.retain.ensures.filtered
