use Rattle.std.proofs.Common.{List, ap, ◌∙◌}
use Rattle.std.specs.Prelude.{◌==◌, not, filter}
use Rattle.zs_subscriptions.specs.Contents.{Contents}
use Rattle.zs_subscriptions.specs.declared.subscriber.SubRow.{SubRow}
use Rattle.zs_entity_tables.proofs.Bounds.{push_undone}
use Rattle.zs_world.proofs.session_tables.subscribers.add_to_group.Goals as goal

pub returns-in-Err-clause-same_tables : goal.returns-in-Err-clause-same_tables
returns-in-Err-clause-same_tables c =
    c.remove.ensures.rows ∙ ap (λ (t : Contents). record t { rows = filter (λ row. not (row.id == c.args.row.id)) t.rows }) c.in_ok-add.ensures.ok
    ∙ ap (λ (rows : List SubRow). record c.args.tables.now { rows = rows }) (push_undone (λ (row : SubRow). row.id) c.args.tables.now.rows c.args.row c.requires)
