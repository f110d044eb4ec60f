-- What changes of entities make of the tables: what is added is told by its row, what ends and what is left to itself by its kind.
use Rattle.std.specs.Prelude.{◌≡◌, ℕ, ◌+◌, ◌==◌, false, not, List, [], ◌∷◌, ◌++◌, filter, option_map, if◌then◌else◌}
use Rattle.zs_subscriptions.specs.Ascending.{placed_by}
use Rattle.zs_tables.specs.Groups.{AllGroups}
use Rattle.zs_tables.specs.Liveliness.{put_new}
use Rattle.zs_tables.specs.Types.{LivelinessSub}
use Rattle.zs_tables.specs.declared.listener.ListenerRow.{ListenerRow}
use Rattle.zs_tables.specs.declared.queryable.QueryableRow.{QueryableRow}
use Rattle.zs_subscriptions.specs.declared.subscriber.SubRow.{SubRow}
use Rattle.zs_query.specs.GetTable.{Asking, without_querier}
use Rattle.zs_events.specs.declared.entity_kind.EntityKind.TheVariants.{Sub as sub_kind, Pub as pub_kind, Queryable as queryable_kind, Querier as querier_kind, Listener as listener_kind, Token as token_kind, Lsub as lsub_kind}
use Rattle.zs_events.specs.declared.turn.Kind.{Kind}
use Rattle.zs_events.specs.declared.turn.Kind.TheVariants.{Subscriber, Queryable, LivelinessSubscriber, Listener}
use Rattle.zs_events.specs.Kinds.{background_kind_of}
use Rattle.zs_model.specs.declared.publisher.PubRow.{PubRow}
use Rattle.zs_model.specs.declared.querier.QuerierRow.{QuerierRow}
use Rattle.zs_model.specs.declared.settings.Settings.{Settings}
use Rattle.zs_model.specs.Counters.{is_spent}
use Rattle.zs_model.specs.Groups.{sub_shared, pub_shared, querier_shared, joined_by, left_found}
use Rattle.zs_model.specs.Live.{is_same}
use Rattle.zs_model.specs.Liveliness.{Liveliness}
use Rattle.zs_model.specs.Publishers.{pub_at}
use Rattle.zs_model.specs.Queriers.{querier_at}
use Rattle.zs_model.specs.Settings.{last_entity}
use Rattle.zs_model.specs.Subscribers.{sub_at}
use Rattle.zs_entity_tables.specs.MatchingTables.{Matching}
use Rattle.zs_world.specs.World.{Entities}
pub use Rattle.zs_world.specs.declared.change.EntityRow.{EntityRow}
use Rattle.zs_world.specs.declared.change.EntityRow.TheVariants.{Sub as new_sub, Pub as new_pub, Queryable as new_queryable, Querier as new_querier, Listener as new_listener, Token as new_token, Lsub as new_lsub}
pub use Rattle.zs_world.specs.declared.change.EntityChange.{EntityChange}
use Rattle.zs_world.specs.declared.change.EntityChange.TheVariants.{Add as AddEntity, End as EndEntity, Leave as LeaveEntity}

-- the number of what is added
abbrev pub row_number : EntityRow → ℕ
row_number (new_sub row) = row.id
row_number (new_pub row) = row.id
row_number (new_queryable row) = row.id
row_number (new_querier row) = row.id
row_number (new_listener row) = row.id
row_number (new_token id) = id
row_number (new_lsub row) = row.id

-- the next entity number behind a change
abbrev pub next_entity_after : EntityChange → ℕ → ℕ
next_entity_after (AddEntity row) next = next + 1
next_entity_after change next = next

-- the subscribers
abbrev pub subs_after : EntityChange → List SubRow → List SubRow
subs_after (AddEntity (new_sub row)) rows = rows ++ row ∷ []
subs_after (EndEntity sub_kind id) rows = filter (λ row. not (row.id == id)) rows
subs_after change rows = rows

-- the publishers
abbrev pub pubs_after : EntityChange → List PubRow → List PubRow
pubs_after (AddEntity (new_pub row)) rows = rows ++ row ∷ []
pubs_after (EndEntity pub_kind id) rows = filter (λ row. not (row.id == id)) rows
pubs_after change rows = rows

-- the queryables
abbrev pub queryables_after : EntityChange → List QueryableRow → List QueryableRow
queryables_after (AddEntity (new_queryable row)) rows = rows ++ row ∷ []
queryables_after (EndEntity queryable_kind id) rows = filter (λ row. not (row.id == id)) rows
queryables_after change rows = rows

-- the queriers
abbrev pub queriers_after : EntityChange → List QuerierRow → List QuerierRow
queriers_after (AddEntity (new_querier row)) rows = rows ++ row ∷ []
queriers_after (EndEntity querier_kind id) rows = filter (λ row. not (row.id == id)) rows
queriers_after change rows = rows

-- the listeners: those to a publisher or a querier end with it
abbrev pub listeners_after : EntityChange → List ListenerRow → List ListenerRow
listeners_after (AddEntity (new_listener row)) rows = rows ++ row ∷ []
listeners_after (EndEntity listener_kind id) rows = filter (λ row. not (row.id == id)) rows
listeners_after (EndEntity pub_kind id) rows = filter (λ row. not (row.parent == id)) rows
listeners_after (EndEntity querier_kind id) rows = filter (λ row. not (row.parent == id)) rows
listeners_after change rows = rows

-- the tokens of this session
abbrev pub tokens_after : EntityChange → List ℕ → List ℕ
tokens_after (AddEntity (new_token id)) ids = placed_by (λ n. n) id ids
tokens_after (EndEntity token_kind id) ids = filter (λ n. not (n == id)) ids
tokens_after change ids = ids

-- the subscribers to liveliness
abbrev pub lsubs_after : EntityChange → List LivelinessSub → List LivelinessSub
lsubs_after (AddEntity (new_lsub row)) rows = put_new (λ s. s.id) row rows
lsubs_after (EndEntity lsub_kind id) rows = filter (λ row. not (row.id == id)) rows
lsubs_after change rows = rows

-- the numbers of this kind that were left to themselves
abbrev pub left_after : Kind → EntityChange → List ℕ → List ℕ
left_after kind (LeaveEntity other id) ids = if is_same kind (background_kind_of other) then placed_by (λ n. n) id ids else ids
left_after kind change ids = ids

-- all that the application declared, but for liveliness and listeners
abbrev pub entities_after : EntityChange → Entities → Entities
entities_after change e = record {
  subs = subs_after change e.subs;
  pubs = pubs_after change e.pubs;
  queryables = queryables_after change e.queryables;
  queriers = queriers_after change e.queriers;
  left_subs = left_after Subscriber change e.left_subs;
  left_queryables = left_after Queryable change e.left_queryables;
}

-- those of liveliness
abbrev pub liveliness_declared : EntityChange → Liveliness → Liveliness
liveliness_declared change l = record l {
  tokens = tokens_after change l.tokens;
  subs = lsubs_after change l.subs;
  left = left_after LivelinessSubscriber change l.left;
}

-- and those of matching
abbrev pub matching_declared : EntityChange → Matching → Matching
matching_declared change m = record m { listeners = listeners_after change m.listeners; left = left_after Listener change m.left }

-- the gets: those that a querier asked end with it
abbrev pub asking_left : EntityChange → Asking → Asking
asking_left (EndEntity querier_kind id) a = without_querier id a
asking_left change a = a

-- the groups, given what was declared before
abbrev pub groups_after : Settings → Entities → EntityChange → AllGroups → AllGroups
groups_after s before (AddEntity (new_sub row)) gs = record gs { subscribers = joined_by s.aggregated_subscribers (sub_shared row) gs.subscribers }
groups_after s before (AddEntity (new_pub row)) gs = record gs { publishers = joined_by s.aggregated_publishers (pub_shared row) gs.publishers }
groups_after s before (AddEntity (new_querier row)) gs = record gs { queriers = joined_by [] (querier_shared row) gs.queriers }
groups_after s before (EndEntity sub_kind id) gs = record gs {
  subscribers = left_found s.aggregated_subscribers (option_map sub_shared (sub_at id before.subs)) gs.subscribers;
}
groups_after s before (EndEntity pub_kind id) gs = record gs {
  publishers = left_found s.aggregated_publishers (option_map pub_shared (pub_at id before.pubs)) gs.publishers;
}
groups_after s before (EndEntity querier_kind id) gs = record gs {
  queriers = left_found [] (option_map querier_shared (querier_at id before.queriers)) gs.queriers;
}
groups_after s before change gs = gs

-- what a change takes for granted, given the next entity number: what is added has that number, and there is one
abbrev pub EntitiesFit : ℕ → EntityChange → Type 0
EntitiesFit next (AddEntity row) = (row_number row ≡ next) × (is_spent last_entity next ≡ false)
EntitiesFit next change = Unit {0}
