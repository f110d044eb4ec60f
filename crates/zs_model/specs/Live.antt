-- What is live, told by the events alone: a plain filter over all that was ever declared, with no table.
use Rattle.std.specs.Prelude.{ℕ, Bool, true, false, ◌==◌, ◌&&◌, ◌||◌, not, List, [], ◌∷◌, ◌++◌, Option, Some, None, filter}
use Rattle.std.specs.List.{list_any}
use Rattle.zs_events.specs.declared.event.Event.{Event}
use Rattle.zs_events.specs.declared.event.Event.TheVariants.{Close}
use Rattle.zs_events.specs.declared.turn.Kind.{Kind}
use Rattle.zs_events.specs.declared.turn.Kind.TheVariants.{Subscriber, Publisher, Queryable as queryable_kind, Querier as querier_kind, Token as token_kind, LivelinessSubscriber, Listener, Get, LivelinessGet}
use Rattle.zs_subscriptions.specs.declared.subscriber.SubRow.{SubRow}
use Rattle.zs_tables.specs.declared.queryable.QueryableRow.{QueryableRow}
use Rattle.zs_events.specs.Kinds.{Named, ToGets, ToEntities, Declares, EndsEntity, LeavesEntity, row_of}
use Rattle.zs_model.specs.Entry.{Entry}
use Rattle.zs_model.specs.declared.publisher.PubRow.{PubRow}
use Rattle.zs_model.specs.Subscribers.{sub_row}
use Rattle.zs_model.specs.Publishers.{pub_row}
use Rattle.zs_model.specs.Queryables.{queryable_row}
use Rattle.zs_model.specs.declared.querier.QuerierRow.{QuerierRow}
use Rattle.zs_model.specs.Queriers.{querier_row, to_gets_by}
use Rattle.zs_tables.specs.Types.{LivelinessSub}
use Rattle.zs_model.specs.Liveliness.{token_row, lsub_row}
use Rattle.zs_tables.specs.declared.listener.ListenerRow.{ListenerRow}
use Rattle.zs_model.specs.Listeners.{listener_row, ends_listener, is_listener}

-- the list with more behind it
abbrev pub appended : {A : Type 0} → List A → List A → List A
appended xs [] = xs
appended xs (y ∷ ys) = xs ++ (y ∷ ys)

-- all that was ever declared of a sort of entities, the first one first
abbrev pub declared : {R : Type 0} → (Event → Option ℕ → Option (List ℕ) → List R) → List Entry → List R
declared row [] = []
declared row (x ∷ past) = appended (declared row past) (row x.event x.number x.text)

-- whether two kinds are the same
abbrev pub is_same : Kind → Kind → Bool
is_same Subscriber Subscriber = true
is_same LivelinessSubscriber LivelinessSubscriber = true
is_same Publisher Publisher = true
is_same queryable_kind queryable_kind = true
is_same querier_kind querier_kind = true
is_same token_kind token_kind = true
is_same Listener Listener = true
is_same Get Get = true
is_same LivelinessGet LivelinessGet = true
is_same kind other = false

-- whether that is the number that was drawn
abbrev pub is_that : ℕ → Option ℕ → Bool
is_that id None = false
is_that id (Some number) = id == number

-- whether an event declares what has this kind, under this number
abbrev pub drew_as : Kind → ℕ → ToEntities → Option ℕ → Bool
drew_as kind id (Declares other) number = is_same kind other && is_that id number
drew_as kind id to number = false

abbrev pub drew : Kind → ℕ → Event → Option ℕ → Bool
drew kind id e number = drew_as kind id (row_of e).to_entities number

-- whether it ends what has this kind and number: its undeclaration, or the close
abbrev pub ends_as : Kind → ℕ → ToEntities → Bool
ends_as kind id (EndsEntity other number) = is_same kind other && id == number
ends_as kind id to = false

abbrev pub ends : Kind → ℕ → Event → Bool
ends kind id Close = true
ends kind id e = ends_as kind id (row_of e).to_entities

-- whether it leaves what has this kind and number to itself
abbrev pub leaves_as : Kind → ℕ → ToEntities → Bool
leaves_as kind id (LeavesEntity other number) = is_same kind other && id == number
leaves_as kind id to = false

abbrev pub leaves : Kind → ℕ → Event → Bool
leaves kind id e = leaves_as kind id (row_of e).to_entities

-- an event of the past drew the number, and none after it, nor any of the later ones, ended it
abbrev pub drew_unended : Kind → ℕ → List Event → List Entry → Bool
drew_unended kind id later [] = false
drew_unended kind id later (x ∷ past) =
    (drew kind id x.event x.number && not (list_any (ends kind id) later)) || drew_unended kind id (x.event ∷ later) past

-- whether what has this kind and number was declared and is not ended since. A listener ends with what it listens to, too: see `is_living`
abbrev pub is_live : Kind → ℕ → List Entry → Bool
is_live kind id past = drew_unended kind id [] past

-- whether it was left to itself
abbrev pub was_left : Kind → ℕ → List Entry → Bool
was_left kind id past = list_any (λ x. leaves kind id x.event) past

-- the live subscribers, publishers, queryables and queriers, in the order of their declarations
abbrev pub live_subs : List Entry → List SubRow
live_subs past = filter (λ row. is_live Subscriber row.id past) (declared sub_row past)

abbrev pub live_pubs : List Entry → List PubRow
live_pubs past = filter (λ row. is_live Publisher row.id past) (declared pub_row past)

abbrev pub live_queryables : List Entry → List QueryableRow
live_queryables past = filter (λ row. is_live queryable_kind row.id past) (declared queryable_row past)

abbrev pub live_queriers : List Entry → List QuerierRow
live_queriers past = filter (λ row. is_live querier_kind row.id past) (declared querier_row past)

-- what an event is to gets: a get of a live querier is one that asks what the querier says
abbrev pub to_gets_of : List Entry → Event → ToGets
to_gets_of past e = to_gets_by (live_queriers past) (row_of e).to_gets

-- and the live tokens of this session, by their numbers
abbrev pub live_tokens : List Entry → List ℕ
live_tokens past = filter (λ id. is_live token_kind id past) (declared token_row past)

-- and the live subscribers to liveliness
abbrev pub live_lsubs : List Entry → List LivelinessSub
live_lsubs past = filter (λ row. is_live LivelinessSubscriber row.id past) (declared lsub_row past)

-- and the live listeners: those that were live before the last event and that it doesn't end, and the one that it declares. So a listener
-- lives no longer than what it listens to
abbrev pub live_listeners : List Entry → List ListenerRow
live_listeners [] = []
live_listeners (x ∷ past) =
    appended (filter (λ row. not (ends_listener x.event row)) (live_listeners past))
    (listener_row (live_pubs past) (live_queriers past) x.event x.number)

-- whether what has a kind and number is live, listeners among them
abbrev pub is_living : Kind → ℕ → List Entry → Bool
is_living Listener id past = is_listener id (live_listeners past)
is_living kind id past = is_live kind id past

-- whether it can be named: it is live and was not left to itself
abbrev pub is_named : Kind → ℕ → List Entry → Bool
is_named kind id past = is_living kind id past && not (was_left kind id past)

-- whether what an event names can be named, if it names anything
abbrev pub names_some : List Entry → Option Named → Bool
names_some past None = true
names_some past (Some named) = is_named named.kind named.id past
