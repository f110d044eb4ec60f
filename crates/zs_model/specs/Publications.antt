use Rattle.std.specs.Prelude.{ℕ, Bool, List, [], map, filter, ◌&&◌, not, if◌then◌else◌}
use Rattle.zs_keys.specs.Key.{undeclared}
use Rattle.zs_keys.specs.Matching.{intersects}
use Rattle.zs_sample.specs.declared.locality.Locality.{Locality}
use Rattle.zs_sample.specs.declared.quality.Reliability.TheVariants.{BestEffort, Reliable}
use Rattle.zs_sample.specs.declared.sample_fields.SampleFields.{SampleFields}
use Rattle.zs_wire.specs.declared.sample_kind.SampleKind.{SampleKind}
use Rattle.zs_wire.specs.declared.sample_kind.SampleKind.TheVariants.{Put as put_kind, Delete as delete_kind}
use Rattle.zs_sample.specs.Encoding.{encoding_of}
use Rattle.zs_sample.specs.Quality.{priority_of}
use Rattle.zs_subscriptions.specs.Recipients.{has_session, has_network, recipients}
use Rattle.zs_events.specs.declared.publication.Content.{Content}
use Rattle.zs_events.specs.Updates.{default_encoding}
use Rattle.zs_events.specs.declared.turn.Effect.{Effect}
use Rattle.zs_events.specs.declared.turn.Effect.TheVariants.{Hand}
use Rattle.zs_events.specs.declared.turn.HandOver.TheVariants.{Sample as sample_for}
use Rattle.zs_events.specs.declared.turn.Kind.TheVariants.{Subscriber}
use Rattle.zs_subscriptions.specs.declared.subscriber.SubRow.{SubRow}

-- a publication: made in this session, for a destination, or come in from the network
pub record Publication : Type 0 where
  pub local : Bool
  pub destination : Locality
  pub sample : SampleFields

-- a local publication reaches this session's subscribers for local data, an incoming one those for network data
abbrev pub reaches : Bool → Locality → Locality → Bool
reaches local destination origin =
    if local then (has_session destination && has_session origin) else has_network origin

-- whether a subscriber is handed a publication: by locality, and by key
abbrev pub allows : Publication → SubRow → Bool
allows p row = reaches p.local p.destination row.origin && intersects p.sample.key_expr.text row.key.text

-- the payload that is handed out: a deletion has none
abbrev pub handed_payload : SampleKind → List (List ℕ) → List (List ℕ)
handed_payload put_kind payload = payload
handed_payload delete_kind payload = []

-- the encoding: the empty text is the default, which a deletion has too
abbrev pub handed_encoding : SampleKind → List ℕ → List ℕ
handed_encoding put_kind encoding = encoding_of encoding
handed_encoding delete_kind encoding = default_encoding

-- the sample of a publication on this text: a priority outside 1 to 7 is Data
abbrev pub sample_on : List ℕ → Content → SampleFields
sample_on text c = record {
  key_expr = undeclared text;
  payload = handed_payload c.body.kind c.body.payload;
  kind = c.body.kind;
  encoding = handed_encoding c.body.kind c.body.encoding;
  timestamp = c.body.timestamp;
  express = c.qos.express;
  priority = priority_of c.qos.priority;
  congestion_control = c.qos.congestion;
  reliability = if c.reliable then Reliable else BestEffort;
  source_info = c.body.source;
  attachment = c.body.attachment;
}

-- one sample for each subscriber that is allowed it, in the order of the rows
abbrev pub hands : Publication → List SubRow → List Effect
hands p rows = map (λ row. Hand (sample_for Subscriber row.id p.sample)) (filter (allows p) rows)

-- a sample for the subscriber of a number
abbrev pub hand_to : SampleFields → ℕ → Effect
hand_to sample id = Hand (sample_for Subscriber id sample)

-- the sample for each of these subscribers
abbrev pub hands_to : SampleFields → List ℕ → List Effect
hands_to sample ids = map (hand_to sample) ids

-- the subscribers that a publication on this text reaches: none where this session isn't in its destination
abbrev pub reached : Bool → Locality → List ℕ → List SubRow → List ℕ
reached local destination text rows = if local && not (has_session destination) then [] else recipients local text rows
