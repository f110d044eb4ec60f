-- What a store takes of what a session hands over.
use Rattle.std.specs.Prelude.{ℕ, ◌==◌, List, [], ◌∷◌, Option, None, Some, if◌then◌else◌}
use Rattle.zs_bytes.specs.Payload.{bytes_of}
use Rattle.zs_wire.specs.declared.origin.Timestamp.{Timestamp}
use Rattle.zs_sample.specs.declared.sample_fields.SampleFields.{SampleFields}
use Rattle.zs_events.specs.declared.turn.Effect.{Effect}
use Rattle.zs_events.specs.declared.turn.Effect.TheVariants.{Hand}
use Rattle.zs_events.specs.declared.turn.HandOver.{HandOver}
use Rattle.zs_events.specs.declared.turn.HandOver.TheVariants.{Sample as sample_for}
use Rattle.zs_events.specs.declared.turn.Kind.{Kind}
use Rattle.zs_events.specs.declared.turn.Kind.TheVariants.{Subscriber}
use Rattle.zs_store.specs.Store.{Write, merged}

-- what a sample of that moment writes
abbrev pub write_at : Timestamp → SampleFields → Write
write_at time sample = record {
  key = sample.key_expr.text;
  entry = record { kind = sample.kind; bytes = bytes_of sample.payload; timestamp = time };
}

-- a store with what a sample writes, if it tells its moment
abbrev pub with_timed : Option Timestamp → SampleFields → List Write → List Write
with_timed None sample store = store
with_timed (Some time) sample store = merged (write_at time sample) store

abbrev pub with_sample : SampleFields → List Write → List Write
with_sample sample store = with_timed sample.timestamp sample store

-- whether a hand-over is one to the subscriber of that number
abbrev pub with_numbered : Kind → ℕ → ℕ → SampleFields → List Write → List Write
with_numbered Subscriber number id sample store = if number == id then with_sample sample store else store
with_numbered kind number id sample store = store

-- a store with what is handed to the subscriber of that number
abbrev pub with_item : ℕ → HandOver → List Write → List Write
with_item id (sample_for kind number sample) store = with_numbered kind number id sample store
with_item id item store = store

abbrev pub with_effect : ℕ → Effect → List Write → List Write
with_effect id (Hand item) store = with_item id item store
with_effect id effect store = store

-- with what effects hand to it, in their order
abbrev pub with_effects : ℕ → List Effect → List Write → List Write
with_effects id [] store = store
with_effects id (effect ∷ effects) store = with_effects id effects (with_effect id effect store)
