-- Replies in the making, and the events that they are.
use Rattle.std.specs.Prelude.{ℕ, Bool, List, Option, Some, None}
use Rattle.zs_keys.specs.Key.{Key}
use Rattle.zs_wire.specs.declared.origin.SourceInfo.{SourceInfo}
use Rattle.zs_wire.specs.declared.origin.Timestamp.{Timestamp}
use Rattle.zs_wire.specs.declared.sample_kind.SampleKind.{SampleKind}
use Rattle.zs_wire.specs.declared.sample_kind.SampleKind.TheVariants.{Put as put_kind, Delete as delete_kind}
use Rattle.zs_sample.specs.Quality.{number_of}
use Rattle.zs_sample.specs.declared.sample_fields.SampleFields.{SampleFields}
use Rattle.zs_events.specs.declared.event.Event.{Event}
use Rattle.zs_events.specs.declared.event.Event.TheVariants.{Reply, ReplyErr}
use Rattle.zs_events.specs.declared.publication.ReplyQuality.{ReplyQuality}
use Rattle.zs_events.specs.declared.update.PushBody.{PushBody}
use Rattle.zs_events.specs.declared.update.PushBody.TheVariants.{Put, Delete}
use Rattle.zs_events.specs.declared.update.Update.{Update}
use Rattle.zs_events.specs.Updates.{default_encoding}
use Rattle.zs_turns.specs.Queries.{QuerySeen}
use Rattle.zs_cell.specs.Places.{SessionPlace}
use Rattle.zs_cell.specs.Keys.{key_arg}
use Rattle.zs_calls.specs.Publications.{PutSeen, DeleteSeen, put_body}

-- a reply in the making: to a query, by a session, on a key
pub record ReplySeen (T : Type 0) : Type 0 where
  pub query : QuerySeen
  pub session : SessionPlace
  pub key : Key
  pub kind : T
  pub timestamp : Option Timestamp
  pub express : Option Bool
  pub source_info : Option SourceInfo
  pub attachment : Option (List (List ℕ))

-- a reply with an error
pub record ReplyErrSeen : Type 0 where
  pub query : QuerySeen
  pub session : SessionPlace
  pub payload : List (List ℕ)
  pub encoding : List ℕ

-- a sample as a reply
pub record ReplySampleSeen : Type 0 where
  pub query : QuerySeen
  pub session : SessionPlace
  pub sample : SampleFields

-- the event by which a session of that tag answers a query so on a key: the query says what the answer doesn't
abbrev pub answer_event : ℕ → QuerySeen → Key → Update → Option Bool → Event
answer_event tag query key update express =
    Reply query.value (key_arg tag key) update (record { priority = None; congestion = None; express = express })

module _ {T : Type 0} where
  -- a reply of which nothing else is said
  abbrev pub replied : QuerySeen → SessionPlace → Key → T → ReplySeen T
  replied query session key kind = record {
    query = query;
    session = session;
    key = key;
    kind = kind;
    timestamp = None;
    express = None;
    source_info = None;
    attachment = None;
  }

  -- what a reply says of its key
  abbrev pub replied_update : PushBody → ReplySeen T → Update
  replied_update body r = record { body = body; timestamp = r.timestamp; source = r.source_info; attachment = r.attachment }

  -- the event that a reply is
  abbrev pub reply_event : PushBody → ReplySeen T → Event
  reply_event body r = answer_event r.session.tag r.query r.key (replied_update body r) r.express

-- a reply with an error of which nothing else is said
abbrev pub replied_err : QuerySeen → SessionPlace → List (List ℕ) → ReplyErrSeen
replied_err query session payload = record { query = query; session = session; payload = payload; encoding = default_encoding }

-- the events that replies are
abbrev pub reply_put_event : ReplySeen PutSeen → Event
reply_put_event r = reply_event (put_body r.kind) r

abbrev pub reply_delete_event : ReplySeen DeleteSeen → Event
reply_delete_event r = reply_event Delete r

abbrev pub reply_err_event : ReplyErrSeen → Event
reply_err_event r = ReplyErr r.query.value (record { payload = r.payload; encoding = r.encoding })

-- what a sample puts, or that it deletes
abbrev pub sample_body : SampleKind → List (List ℕ) → List ℕ → PushBody
sample_body put_kind payload encoding = Put payload (Some encoding)
sample_body delete_kind payload encoding = Delete

-- what a sample says of its key
abbrev pub sample_update : SampleFields → Update
sample_update sample = record {
  body = sample_body sample.kind sample.payload sample.encoding;
  timestamp = sample.timestamp;
  source = sample.source_info;
  attachment = sample.attachment;
}

-- the quality of service of a sample
abbrev pub sample_quality : SampleFields → ReplyQuality
sample_quality sample = record {
  priority = Some (number_of sample.priority);
  congestion = Some sample.congestion_control;
  express = Some sample.express;
}

-- a sample as a reply goes out with all that it says itself
abbrev pub reply_sample_event : ReplySampleSeen → Event
reply_sample_event r =
    Reply r.query.value (key_arg r.session.tag r.sample.key_expr) (sample_update r.sample) (sample_quality r.sample)
