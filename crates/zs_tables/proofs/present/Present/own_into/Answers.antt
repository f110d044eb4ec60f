use Rattle.std.proofs.Common.{◌≡◌, true, false, length, ap, ◌∙◌}
use Rattle.std.specs.Prelude.{map, filter}
use Rattle.zs_keys.specs.Matching.{intersects}
use Rattle.zs_subscriptions.specs.declared.subscriber.SubRow.{SubRow}
use Rattle.zs_tables.specs.declared.queryable.QueryableRow.{QueryableRow}
use Rattle.zs_tables.specs.Queryables.{answers_for}
use Rattle.zs_subscriptions.specs.Recipients.{matches}
use Rattle.zs_tables.proofs.Answering.{length_met, ok_length}
use Rattle.zs_tables.proofs.present.Present.own_into.Goals as goal

pub returns-in-Subscribers : goal.returns-in-Subscribers
returns-in-Subscribers c =
    let text = c.args.listener.now.key.text in
    let many = length_met (λ (row : SubRow). row.id) (λ row. intersects text row.key.text) c.args.self.now.tables.now.rows in
    rw (c.in-Subscribers.is, ← many) (ok_length c.own_subs_into.result c.own_subs_into.new.ids.items (matches text c.args.self.now.tables.now.rows) c.own_subs_into.ensures)

pub returns-in-Queryables : goal.returns-in-Queryables
returns-in-Queryables c =
    let text = c.args.listener.now.key.text in
    let many = length_met (λ (row : QueryableRow). row.id) (answers_for false text) c.args.self.now.queryables.now in
    rw (c.in-Queryables.is, ← many)
    (ok_length c.answering_into.result c.answering_into.new.into.items (map (λ (row : QueryableRow). row.id) (filter (answers_for false text) c.args.self.now.queryables.now)) c.answering_into.ensures.ok)

pub returns-in-CompleteQueryables : goal.returns-in-CompleteQueryables
returns-in-CompleteQueryables c =
    let text = c.args.listener.now.key.text in
    let many = length_met (λ (row : QueryableRow). row.id) (answers_for true text) c.args.self.now.queryables.now in
    rw (c.in-CompleteQueryables.is, ← many)
    (ok_length c.answering_into-in-CompleteQueryables.result c.answering_into-in-CompleteQueryables.new.into.items
    (map (λ (row : QueryableRow). row.id) (filter (answers_for true text) c.args.self.now.queryables.now)) c.answering_into-in-CompleteQueryables.ensures.ok)
