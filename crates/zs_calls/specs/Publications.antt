-- Publications in the making, and the events that they are.
use Rattle.std.specs.Prelude.{ℕ, Bool, true, false, List, Option, None}
use Rattle.zs_keys.specs.Key.{Key}
use Rattle.zs_wire.specs.declared.origin.SourceInfo.{SourceInfo}
use Rattle.zs_wire.specs.declared.origin.Timestamp.{Timestamp}
use Rattle.zs_wire.specs.declared.quality.CongestionControl.TheVariants.{Drop}
use Rattle.zs_wire.specs.declared.quality.QoSType.{QoSType}
use Rattle.zs_sample.specs.declared.locality.Locality.{Locality}
use Rattle.zs_sample.specs.declared.locality.Locality.TheVariants.{Any}
use Rattle.zs_sample.specs.declared.quality.Reliability.{Reliability}
use Rattle.zs_sample.specs.declared.quality.Reliability.TheVariants.{BestEffort, Reliable}
use Rattle.zs_events.specs.declared.event.Event.{Event}
use Rattle.zs_events.specs.declared.event.Event.TheVariants.{Publish, PublishBy}
use Rattle.zs_events.specs.declared.publication.PublicationQuality.{PublicationQuality}
use Rattle.zs_events.specs.declared.update.PushBody.{PushBody}
use Rattle.zs_events.specs.declared.update.PushBody.TheVariants.{Put, Delete}
use Rattle.zs_events.specs.declared.update.Update.{Update}
use Rattle.zs_cell.specs.Places.{SessionPlace}
use Rattle.zs_cell.specs.Keys.{key_arg}

-- what is put: a payload, and what it is, if that was said
pub record PutSeen : Type 0 where
  pub payload : List (List ℕ)
  pub encoding : Option (List ℕ)

-- that something is deleted
pub data DeleteSeen : Type 0 where
  Deletes : DeleteSeen

-- who publishes: a session on a key, for subscribers of a destination and with a quality of service
pub record OnKeySeen : Type 0 where
  pub session : SessionPlace
  pub key : Key
  pub destination : Locality
  pub qos : QoSType
  pub reliability : Reliability

-- or a publisher of a session
pub record ByPublisherSeen : Type 0 where
  pub session : SessionPlace
  pub id : ℕ

-- a publication in the making: who publishes, what it puts or that it deletes, and what else is said of it
pub record Publication (P T : Type 0) : Type 0 where
  pub by : P
  pub kind : T
  pub timestamp : Option Timestamp
  pub source_info : Option SourceInfo
  pub attachment : Option (List (List ℕ))

-- whether a publication is sent again where it was lost on the way
abbrev pub is_reliable : Reliability → Bool
is_reliable BestEffort = false
is_reliable Reliable = true

-- the quality of service of what a session publishes, where nothing else is said
abbrev pub publication_qos : QoSType
publication_qos = record { priority = 5; congestion = Drop; express = false }

-- what is put and deleted
abbrev pub put_body : PutSeen → PushBody
put_body put = Put put.payload put.encoding

-- what a publication says of its key
module _ {P T : Type 0} where
  abbrev pub update_of : PushBody → Publication P T → Update
  update_of body p = record { body = body; timestamp = p.timestamp; source = p.source_info; attachment = p.attachment }

  -- a publication of which nothing else is said
  abbrev pub published : P → T → Publication P T
  published by kind = record { by = by; kind = kind; timestamp = None; source_info = None; attachment = None }

-- a session that publishes on a key, of which nothing else is said
abbrev pub on_key : SessionPlace → Key → OnKeySeen
on_key session key = record { session = session; key = key; destination = Any; qos = publication_qos; reliability = Reliable }

-- a payload of which nothing else is said
abbrev pub put_of : List (List ℕ) → PutSeen
put_of payload = record { payload = payload; encoding = None }

-- the event by which a session publishes on a key
abbrev pub publish_event : OnKeySeen → Update → Event
publish_event by update =
    Publish by.destination (key_arg by.session.tag by.key) update (record { qos = by.qos; reliable = is_reliable by.reliability })

-- and that by which a publisher does
abbrev pub publish_by_event : ByPublisherSeen → Update → Event
publish_by_event by update = PublishBy by.id update

-- the events that the four publications are
abbrev pub session_put_event : Publication OnKeySeen PutSeen → Event
session_put_event p = publish_event p.by (update_of (put_body p.kind) p)

abbrev pub session_delete_event : Publication OnKeySeen DeleteSeen → Event
session_delete_event p = publish_event p.by (update_of Delete p)

abbrev pub publisher_put_event : Publication ByPublisherSeen PutSeen → Event
publisher_put_event p = publish_by_event p.by (update_of (put_body p.kind) p)

abbrev pub publisher_delete_event : Publication ByPublisherSeen DeleteSeen → Event
publisher_delete_event p = publish_by_event p.by (update_of Delete p)
