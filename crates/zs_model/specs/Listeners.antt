-- Listeners as they are declared: they listen for those that match a publisher or a querier.
use Rattle.std.specs.Prelude.{ℕ, Bool, false, true, ◌==◌, List, [], ◌∷◌, map, Option, Some, None}
use Rattle.std.specs.List.{list_any}
use Rattle.zs_wire.specs.declared.request.QueryTarget.{QueryTarget}
use Rattle.zs_wire.specs.declared.request.QueryTarget.TheVariants.{AllComplete}
use Rattle.zs_tables.specs.declared.listener.Sought.{Sought}
use Rattle.zs_tables.specs.declared.listener.Sought.TheVariants.{Subscribers, Queryables, CompleteQueryables}
use Rattle.zs_tables.specs.declared.listener.ListenerRow.{ListenerRow}
use Rattle.zs_events.specs.declared.event.Event.{Event}
use Rattle.zs_events.specs.declared.event.Event.TheVariants.{Listen, Undeclare, Close}
use Rattle.zs_events.specs.declared.entity_kind.EntityKind.TheVariants.{Pub as pub_sort, Querier as querier_sort, Listener as listener_sort}
use Rattle.zs_events.specs.declared.turn.Kind.{Kind}
use Rattle.zs_events.specs.declared.turn.Kind.TheVariants.{Publisher, Querier, Listener as listener_kind}
use Rattle.zs_events.specs.declared.turn.Effect.{Effect}
use Rattle.zs_events.specs.declared.turn.Effect.TheVariants.{End}
use Rattle.zs_events.specs.Kinds.{parent_kind_of}
use Rattle.zs_model.specs.declared.publisher.PubRow.{PubRow}
use Rattle.zs_model.specs.declared.querier.QuerierRow.{QuerierRow}
use Rattle.zs_model.specs.Publishers.{pub_at}
use Rattle.zs_model.specs.Queriers.{querier_at}

-- what listeners to a querier with this target listen for
abbrev pub sought_by : QueryTarget → Sought
sought_by AllComplete = CompleteQueryables
sought_by target = Queryables

-- one that listens to a publisher, and to a querier, if it is live
abbrev pub on_pub : ℕ → Option PubRow → List ListenerRow
on_pub number None = []
on_pub number (Some row) = record { id = number; parent = row.id; destination = row.settings.destination; sought = Subscribers; key = row.key } ∷ []

abbrev pub on_querier : ℕ → Option QuerierRow → List ListenerRow
on_querier number None = []
on_querier number (Some row) =
    record { id = number; parent = row.id; destination = row.settings.destination; sought = sought_by row.settings.target; key = row.key } ∷ []

-- one of this number that listens to what has that kind and number, where these are live
abbrev pub listening : List PubRow → List QuerierRow → ℕ → Kind → ℕ → List ListenerRow
listening pubs queriers number Publisher id = on_pub number (pub_at id pubs)
listening pubs queriers number Querier id = on_querier number (querier_at id queriers)
listening pubs queriers number kind id = []

-- the listener that an event declares, given the number that it drew
abbrev pub listener_row : List PubRow → List QuerierRow → Event → Option ℕ → List ListenerRow
listener_row pubs queriers (Listen parent id) (Some number) = listening pubs queriers number (parent_kind_of parent) id
listener_row pubs queriers e number = []

-- whether an event ends a listener: its undeclaration, that of its publisher or querier, or the close
abbrev pub ends_listener : Event → ListenerRow → Bool
ends_listener (Undeclare listener_sort id) row = row.id == id
ends_listener (Undeclare pub_sort id) row = row.parent == id
ends_listener (Undeclare querier_sort id) row = row.parent == id
ends_listener Close row = true
ends_listener e row = false

-- whether there is a listener of that number
abbrev pub is_listener : ℕ → List ListenerRow → Bool
is_listener id rows = list_any (λ row. row.id == id) rows

-- what tells that these listeners are called no more
abbrev pub listener_ends : List ListenerRow → List Effect
listener_ends rows = map (λ row. End listener_kind row.id) rows
