-- What is printed of stores, and of gets that end.
use Rattle.std.specs.Prelude.{ℕ, List, [], ◌∷◌, ◌++◌, Option, None, Some, Result, Ok, Err, codes, decimal}
use Rattle.std.specs.List.{flat_map}
use Rattle.zs_bytes.specs.Payload.{bytes_of}
use Rattle.zs_wire.specs.declared.origin.Timestamp.{Timestamp}
use Rattle.zs_wire.specs.declared.sample_kind.SampleKind.{SampleKind}
use Rattle.zs_wire.specs.declared.sample_kind.SampleKind.TheVariants.{Put, Delete}
use Rattle.zs_sample.specs.declared.sample_fields.SampleFields.{SampleFields}
use Rattle.zs_sample.specs.ErrorFields.{ErrorFields}
use Rattle.zs_sample.specs.Reply.{Replied}
use Rattle.zs_events.specs.declared.turn.Effect.{Effect}
use Rattle.zs_events.specs.declared.turn.Effect.TheVariants.{Hand, End}
use Rattle.zs_events.specs.declared.turn.HandOver.{HandOver}
use Rattle.zs_events.specs.declared.turn.HandOver.TheVariants.{Reply as handed_reply}
use Rattle.zs_events.specs.declared.turn.Kind.{Kind}
use Rattle.zs_events.specs.declared.turn.Kind.TheVariants.{Get}
use Rattle.zs_printing.specs.Printing.{line}
use Rattle.zs_printing.specs.Words.{byte_digits, timestamp_text}
use Rattle.zs_store.specs.Store.{Write}

-- bytes: `x`, and two digits each
abbrev pub value_text : List ℕ → List ℕ
value_text bytes = 120 ∷ flat_map byte_digits bytes

-- a moment, where it is told
abbrev pub time_fields : Option Timestamp → List (List ℕ)
time_fields None = []
time_fields (Some time) = timestamp_text time ∷ []

-- what was written: `put BYTES TS` or `del TS`
abbrev pub entry_fields : SampleKind → List ℕ → Option Timestamp → List (List ℕ)
entry_fields Put bytes time = codes "put" ∷ value_text bytes ∷ time_fields time
entry_fields Delete bytes time = codes "del" ∷ time_fields time

-- a side has it
abbrev pub write_text : ℕ → List ℕ → Write → List ℕ
write_text number side write =
    line number (side ∷ codes "has" ∷ write.key ∷ entry_fields write.entry.kind write.entry.bytes (Some write.entry.timestamp))

-- the store of a side
abbrev pub store_text : ℕ → List ℕ → List Write → List ℕ
store_text number side store = flat_map (λ write. write_text number side write) store

-- a get of a side got it; an error is passed over
abbrev pub got_text : ℕ → List ℕ → ℕ → Result SampleFields ErrorFields → List ℕ
got_text number side id (Ok sample) =
    line number (side ∷ codes "got" ∷ decimal id ∷ sample.key_expr.text ∷ entry_fields sample.kind (bytes_of sample.payload) sample.timestamp)
got_text number side id (Err error) = []

abbrev pub replied_text : ℕ → List ℕ → Kind → ℕ → Replied → List ℕ
replied_text number side Get id reply = got_text number side id reply.result
replied_text number side kind id reply = []

abbrev pub item_text : ℕ → List ℕ → HandOver → List ℕ
item_text number side (handed_reply kind id reply) = replied_text number side kind id reply
item_text number side item = []

-- a get of a side ended
abbrev pub ended_text : ℕ → List ℕ → Kind → ℕ → List ℕ
ended_text number side Get id = line number (side ∷ codes "end" ∷ decimal id ∷ [])
ended_text number side kind id = []

abbrev pub effect_text : ℕ → List ℕ → Effect → List ℕ
effect_text number side (Hand item) = item_text number side item
effect_text number side (End kind id) = ended_text number side kind id
effect_text number side effect = []

-- what a side's gets got of effects, and which of them ended
abbrev pub ends_text : ℕ → List ℕ → List Effect → List ℕ
ends_text number side effects = flat_map (λ effect. effect_text number side effect) effects
