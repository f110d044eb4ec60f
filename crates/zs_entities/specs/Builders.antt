-- Entities in the making, and the events that declare them.
use Rattle.std.specs.Prelude.{ℕ, Bool, true, false, List, Option, None}
use Rattle.zs_keys.specs.Key.{Key}
use Rattle.zs_wire.specs.declared.quality.QoSType.{QoSType}
use Rattle.zs_sample.specs.declared.locality.Locality.{Locality}
use Rattle.zs_sample.specs.declared.locality.Locality.TheVariants.{Any}
use Rattle.zs_sample.specs.declared.quality.Reliability.{Reliability}
use Rattle.zs_sample.specs.declared.quality.Reliability.TheVariants.{Reliable}
use Rattle.zs_sample.specs.declared.query.ReplyKeyExpr.{ReplyKeyExpr}
use Rattle.zs_sample.specs.declared.query.ReplyKeyExpr.TheVariants.{Any as any_reply, MatchingQuery}
use Rattle.zs_events.specs.declared.chan.Chan.TheVariants.{Print}
use Rattle.zs_events.specs.declared.entity_kind.ParentKind.{ParentKind}
use Rattle.zs_events.specs.declared.event.Event.{Event}
use Rattle.zs_events.specs.declared.event.Event.TheVariants.{Sub, Pub, Queryable, Querier, Listen, Token, Lsub, LivelinessGet}
use Rattle.zs_events.specs.declared.inquiry.QuerySettings.{QuerySettings}
use Rattle.zs_events.specs.Updates.{default_encoding}
use Rattle.zs_cell.specs.Places.{SessionPlace}
use Rattle.zs_calls.specs.Gets.{get_settings}
use Rattle.zs_cell.specs.Keys.{key_arg}
use Rattle.zs_calls.specs.Publications.{is_reliable, publication_qos}

-- a subscriber: of which session, on which key, for publications of which origin, and who is handed them
pub record SubscriberMade (H : Type 0) : Type 0 where
  pub session : SessionPlace
  pub key : Key
  pub origin : Locality
  pub handler : Option H

-- a queryable, for requests of an origin; and whether it knows all values of its key
pub record QueryableMade (H : Type 0) : Type 0 where
  pub session : SessionPlace
  pub key : Key
  pub origin : Locality
  pub complete : Bool
  pub handler : Option H

-- a subscriber to liveliness, and whether it is handed the tokens that are there already
pub record LivelinessSubscriberMade (H : Type 0) : Type 0 where
  pub session : SessionPlace
  pub key : Key
  pub history : Bool
  pub handler : Option H

-- a get of liveliness tokens
pub record LivelinessGetMade (H : Type 0) : Type 0 where
  pub session : SessionPlace
  pub key : Key
  pub timeout : Option ℕ
  pub cancellation_token : Option ℕ
  pub handler : Option H

-- a listener to the matching of a publisher or a querier
pub record MatchingListenerMade (H : Type 0) : Type 0 where
  pub session : SessionPlace
  pub parent : ParentKind
  pub id : ℕ
  pub handler : Option H

-- a liveliness token
pub record LivelinessTokenMade : Type 0 where
  pub session : SessionPlace
  pub key : Key

-- a publisher, whose subscribers are handed what it publishes, and how it publishes
pub record PublisherMade : Type 0 where
  pub session : SessionPlace
  pub key : Key
  pub destination : Locality
  pub encoding : List ℕ
  pub qos : QoSType
  pub reliability : Reliability

-- a querier, and how its gets ask
pub record QuerierMade : Type 0 where
  pub session : SessionPlace
  pub key : Key
  pub settings : QuerySettings

-- whether replies are taken on any key
abbrev pub is_any : ReplyKeyExpr → Bool
is_any any_reply = true
is_any MatchingQuery = false

module _ {H : Type 0} where
  -- those of which nothing else is said
  abbrev pub new_subscriber : SessionPlace → Key → SubscriberMade H
  new_subscriber session key = record { session = session; key = key; origin = Any; handler = None }

  abbrev pub new_queryable : SessionPlace → Key → QueryableMade H
  new_queryable session key = record { session = session; key = key; origin = Any; complete = false; handler = None }

  abbrev pub new_liveliness_subscriber : SessionPlace → Key → LivelinessSubscriberMade H
  new_liveliness_subscriber session key = record { session = session; key = key; history = false; handler = None }

  abbrev pub new_liveliness_get : SessionPlace → Key → LivelinessGetMade H
  new_liveliness_get session key =
      record { session = session; key = key; timeout = None; cancellation_token = None; handler = None }

  abbrev pub new_listener : SessionPlace → ParentKind → ℕ → MatchingListenerMade H
  new_listener session parent id = record { session = session; parent = parent; id = id; handler = None }

  -- the events that declare them
  abbrev pub subscriber_event : SubscriberMade H → Event
  subscriber_event made = Sub made.origin (key_arg made.session.tag made.key) Print

  abbrev pub queryable_event : QueryableMade H → Event
  queryable_event made = Queryable made.origin made.complete (key_arg made.session.tag made.key)

  abbrev pub liveliness_subscriber_event : LivelinessSubscriberMade H → Event
  liveliness_subscriber_event made = Lsub made.history (key_arg made.session.tag made.key)

  abbrev pub liveliness_get_event : LivelinessGetMade H → Event
  liveliness_get_event made = LivelinessGet (key_arg made.session.tag made.key) made.timeout made.cancellation_token Print

  abbrev pub listener_event : MatchingListenerMade H → Event
  listener_event made = Listen made.parent made.id

-- and those of what has no handler
abbrev pub new_publisher : SessionPlace → Key → PublisherMade
new_publisher session key = record {
  session = session;
  key = key;
  destination = Any;
  encoding = default_encoding;
  qos = publication_qos;
  reliability = Reliable;
}

abbrev pub new_querier : SessionPlace → Key → QuerierMade
new_querier session key = record { session = session; key = key; settings = get_settings }

abbrev pub publisher_event : PublisherMade → Event
publisher_event made = Pub (key_arg made.session.tag made.key) (record {
  destination = made.destination;
  encoding = made.encoding;
  quality = record { qos = made.qos; reliable = is_reliable made.reliability };
})

abbrev pub querier_event : QuerierMade → Event
querier_event made = Querier (key_arg made.session.tag made.key) made.settings

abbrev pub token_event : LivelinessTokenMade → Event
token_event made = Token (key_arg made.session.tag made.key)
