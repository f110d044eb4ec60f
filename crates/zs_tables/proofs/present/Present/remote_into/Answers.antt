use Rattle.std.proofs.Common.{◌≡◌, true, false, length, ap, ◌∙◌}
use Rattle.std.specs.Prelude.{map, filter}
use Rattle.std.specs.List.{count_by}
use Rattle.zs_keys.specs.Matching.{intersects}
use Rattle.zs_tables.specs.declared.remote_row.RemoteSubscriber.{RemoteSubscriber}
use Rattle.zs_tables.specs.declared.remote_row.RemoteQueryable.{RemoteQueryable}
use Rattle.zs_tables.specs.RemoteEntities.{answers}
use Rattle.zs_tables.proofs.Answering.{length_met, ok_length, count_agree, meet_both}
use Rattle.zs_tables.proofs.present.Present.remote_into.Goals as goal

pub returns-in-Subscribers : goal.returns-in-Subscribers
returns-in-Subscribers c =
    let text = c.args.listener.now.key.text in
    let subs = c.args.self.now.remote_entities.now.subs in
    let many = length_met (λ (row : RemoteSubscriber). row.number) (λ row. intersects text row.key.text) subs ∙ count_agree (λ (row : RemoteSubscriber). intersects text row.key.text) (λ row. intersects row.key.text text) (λ row. meet_both text row.key.text) subs in
    rw (c.in-Subscribers.is, ← many) (ok_length c.subs_into.result c.subs_into.new.into.items (map (λ (row : RemoteSubscriber). row.number) (filter (λ row. intersects text row.key.text) subs)) c.subs_into.ensures.ok)

pub returns-in-Queryables : goal.returns-in-Queryables
returns-in-Queryables c =
    let text = c.args.listener.now.key.text in
    let queryables = c.args.self.now.remote_entities.now.queryables in
    let many = length_met (λ (row : RemoteQueryable). row.number) (answers false text) queryables in
    rw (c.in-Queryables.is, ← many)
    (ok_length c.answering_into.result c.answering_into.new.into.items (map (λ (row : RemoteQueryable). row.number) (filter (answers false text) queryables)) c.answering_into.ensures.ok)

pub returns-in-CompleteQueryables : goal.returns-in-CompleteQueryables
returns-in-CompleteQueryables c =
    let text = c.args.listener.now.key.text in
    let queryables = c.args.self.now.remote_entities.now.queryables in
    let many = length_met (λ (row : RemoteQueryable). row.number) (answers true text) queryables in
    rw (c.in-CompleteQueryables.is, ← many)
    (ok_length c.answering_into-in-CompleteQueryables.result c.answering_into-in-CompleteQueryables.new.into.items
    (map (λ (row : RemoteQueryable). row.number) (filter (answers true text) queryables)) c.answering_into-in-CompleteQueryables.ensures.ok)
