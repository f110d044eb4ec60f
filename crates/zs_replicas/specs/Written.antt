-- What an application writes: its publications that tell their moment.
use Rattle.std.specs.Prelude.{ℕ, List, [], ◌∷◌, ◌++◌, Option, Some, None, encode_utf8_all}
use Rattle.zs_bytes.specs.Payload.{bytes_of}
use Rattle.zs_wire.specs.declared.origin.Timestamp.{Timestamp}
use Rattle.zs_wire.specs.declared.sample_kind.SampleKind.{SampleKind}
use Rattle.zs_wire.specs.declared.sample_kind.SampleKind.TheVariants.{Put as put_kind, Delete as delete_kind}
use Rattle.zs_events.specs.declared.event.Event.{Event}
use Rattle.zs_events.specs.declared.event.Event.TheVariants.{Publish}
use Rattle.zs_events.specs.declared.key_arg.KeyArg.{KeyArg}
use Rattle.zs_events.specs.declared.key_arg.KeyArg.TheVariants.{Text, Number, Declared}
use Rattle.zs_events.specs.declared.update.PushBody.{PushBody}
use Rattle.zs_events.specs.declared.update.PushBody.TheVariants.{Put, Delete}
use Rattle.zs_store.specs.Store.{Write}

-- whether something is put or deleted, and the bytes of what is put: a deletion has none
abbrev pub kind_by : PushBody → SampleKind
kind_by (Put payload encoding) = put_kind
kind_by Delete = delete_kind

abbrev pub bytes_by : PushBody → List ℕ
bytes_by (Put payload encoding) = bytes_of payload
bytes_by Delete = []

-- what an update of that moment writes at a text
abbrev pub write_by : List ℕ → PushBody → Timestamp → Write
write_by text body time = record { key = text; entry = record { kind = kind_by body; bytes = bytes_by body; timestamp = time } }

abbrev pub timed_write : List ℕ → PushBody → Option Timestamp → List Write
timed_write text body None = []
timed_write text body (Some time) = write_by text body time ∷ []

abbrev pub write_at_key : KeyArg → PushBody → Option Timestamp → List Write
write_at_key (Text text) body time = timed_write (encode_utf8_all text) body time
write_at_key (Number number suffix) body time = []
write_at_key (Declared text number prefix_len) body time = []

-- what an event writes
abbrev pub written_by : Event → List Write
written_by (Publish destination key update quality) = write_at_key key update.body update.timestamp
written_by e = []

-- all that the events of a history wrote, the newest first
abbrev pub written : List Event → List Write
written [] = []
written (e ∷ h) = written_by e ++ written h
