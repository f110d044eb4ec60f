-- Entities that a session holds for the application, and what is said by them.
use Rattle.std.specs.Prelude.{ℕ, Bool, true, false, List, Option, Some, None}
use Rattle.zs_keys.specs.Key.{Key}
use Rattle.zs_wire.specs.declared.origin.EntityGlobalId.{EntityGlobalId}
use Rattle.zs_wire.specs.declared.quality.QoSType.{QoSType}
use Rattle.zs_sample.specs.declared.quality.Reliability.{Reliability}
use Rattle.zs_sample.specs.declared.query.ReplyKeyExpr.{ReplyKeyExpr}
use Rattle.zs_sample.specs.declared.query.ReplyKeyExpr.TheVariants.{Any, MatchingQuery}
use Rattle.zs_sample.specs.declared.sample_fields.SampleFields.{SampleFields}
use Rattle.zs_events.specs.declared.entity_kind.BackgroundKind.{BackgroundKind}
use Rattle.zs_events.specs.declared.entity_kind.BackgroundKind.TheVariants.{Sub as background_sub, Lsub as background_lsub}
use Rattle.zs_events.specs.declared.entity_kind.EntityKind.{EntityKind}
use Rattle.zs_events.specs.declared.entity_kind.EntityKind.TheVariants.{Sub, Lsub}
use Rattle.zs_events.specs.declared.event.Event.{Event}
use Rattle.zs_events.specs.declared.event.Event.TheVariants.{PublishBy, Undeclare, Background}
use Rattle.zs_events.specs.declared.inquiry.QuerySettings.{QuerySettings}
use Rattle.zs_cell.specs.Places.{SessionPlace}
use Rattle.zs_calls.specs.Replies.{sample_body}

-- a queryable or a liveliness token: of which session, under which number, and on which key
pub record EntitySeen : Type 0 where
  pub session : SessionPlace
  pub id : ℕ
  pub key : Key

-- a subscriber, and whether it is one to liveliness
pub record SubscriberSeen : Type 0 where
  pub session : SessionPlace
  pub id : ℕ
  pub key : Key
  pub liveliness : Bool

-- a publisher, and how it publishes
pub record PublisherSeen : Type 0 where
  pub session : SessionPlace
  pub id : ℕ
  pub key : Key
  pub encoding : List ℕ
  pub qos : QoSType
  pub reliability : Reliability

-- a querier, and how its gets ask
pub record QuerierSeen : Type 0 where
  pub session : SessionPlace
  pub id : ℕ
  pub key : Key
  pub settings : QuerySettings

-- a listener to matching
pub record ListenerSeen : Type 0 where
  pub session : SessionPlace
  pub id : ℕ

-- an entity that is to be ended, and whether its callbacks are waited for
pub record Undeclaring (V : Type 0) : Type 0 where
  pub value : V
  pub waits : Bool

-- how an entity is named in the network
abbrev pub global_id : SessionPlace → ℕ → EntityGlobalId
global_id session id = record { zid = session.zid; eid = id }

-- on which keys replies are taken
abbrev pub replies_on : Bool → ReplyKeyExpr
replies_on true = Any
replies_on false = MatchingQuery

-- the event that ends a subscriber, and the one that leaves it to itself
abbrev pub subscriber_kind : Bool → EntityKind
subscriber_kind true = Lsub
subscriber_kind false = Sub

abbrev pub left_kind : Bool → BackgroundKind
left_kind true = background_lsub
left_kind false = background_sub

abbrev pub end_subscriber : SubscriberSeen → Event
end_subscriber subscriber = Undeclare (subscriber_kind subscriber.liveliness) subscriber.id

abbrev pub leave_subscriber : SubscriberSeen → Event
leave_subscriber subscriber = Background (left_kind subscriber.liveliness) subscriber.id

-- what a publisher publishes of a sample: what it puts or that it deletes, and its attachment
abbrev pub sent_event : PublisherSeen → SampleFields → Event
sent_event publisher sample = PublishBy publisher.id (record {
  body = sample_body sample.kind sample.payload sample.encoding;
  timestamp = None;
  source = None;
  attachment = sample.attachment;
})
