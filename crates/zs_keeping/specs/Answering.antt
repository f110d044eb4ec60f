-- What a store answers a query.
use Rattle.std.specs.Prelude.{ℕ, ◌==◌, List, [], ◌∷◌, ◌++◌, None, Some, chars, if◌then◌else◌}
use Rattle.std.specs.List.{flat_map}
use Rattle.zs_keys.specs.Matching.{intersects}
use Rattle.zs_bytes.specs.Payload.{one_slice}
use Rattle.zs_wire.specs.declared.sample_kind.SampleKind.{SampleKind}
use Rattle.zs_wire.specs.declared.sample_kind.SampleKind.TheVariants.{Put as put_kind, Delete as delete_kind}
use Rattle.zs_events.specs.declared.event.Event.{Event}
use Rattle.zs_events.specs.declared.event.Event.TheVariants.{Reply, Finish}
use Rattle.zs_events.specs.declared.key_arg.KeyArg.TheVariants.{Text}
use Rattle.zs_events.specs.declared.publication.ReplyQuality.{ReplyQuality}
use Rattle.zs_events.specs.declared.update.PushBody.{PushBody}
use Rattle.zs_events.specs.declared.update.PushBody.TheVariants.{Put, Delete}
use Rattle.zs_events.specs.declared.update.Update.{Update}
use Rattle.zs_events.specs.declared.turn.Effect.{Effect}
use Rattle.zs_events.specs.declared.turn.Effect.TheVariants.{Hand}
use Rattle.zs_events.specs.declared.turn.HandOver.{HandOver}
use Rattle.zs_events.specs.declared.turn.HandOver.TheVariants.{Query as query_for}
use Rattle.zs_store.specs.Entry.{EntrySeen}
use Rattle.zs_store.specs.Store.{Write}

-- what an entry is as an update: its bytes in one slice, the default encoding and its moment
abbrev pub body_at : SampleKind → List ℕ → PushBody
body_at put_kind bytes = Put (one_slice bytes) None
body_at delete_kind bytes = Delete

abbrev pub body_of : EntrySeen → PushBody
body_of entry = body_at entry.kind entry.bytes

abbrev pub update_of : EntrySeen → Update
update_of entry = record { body = body_of entry; timestamp = Some entry.timestamp; source = None; attachment = None }

abbrev pub plain_quality : ReplyQuality
plain_quality = record { priority = None; congestion = None; express = None }

-- the reply to the query of a value with what was written at a key
abbrev pub reply_of : ℕ → Write → Event
reply_of value write = Reply value (Text (chars write.key)) (update_of write.entry) plain_quality

-- the reply with what was written at a key, if that meets the query's
abbrev pub reply_if : ℕ → List ℕ → Write → List Event
reply_if value key write = if intersects key write.key then reply_of value write ∷ [] else []

-- those with all that a store has, in their order
abbrev pub replies_of : ℕ → List ℕ → List Write → List Event
replies_of value key [] = []
replies_of value key (write ∷ store) = reply_if value key write ++ replies_of value key store

-- a store answers a query of a key: by each entry whose key meets it, ascending, and then it has no more
abbrev pub answers_of : ℕ → List ℕ → List Write → List Event
answers_of value key store = replies_of value key store ++ Finish value ∷ []

-- so it answers the queries that are handed to the queryable of that number
abbrev pub item_answers : ℕ → List Write → HandOver → List Event
item_answers id store (query_for number value query) = if number == id then answers_of value query.key_expr.text store else []
item_answers id store item = []

abbrev pub effect_answers : ℕ → List Write → Effect → List Event
effect_answers id store (Hand item) = item_answers id store item
effect_answers id store effect = []

-- all of them among effects, in their order
abbrev pub answers_to : ℕ → List Write → List Effect → List Event
answers_to id store effects = flat_map (λ effect. effect_answers id store effect) effects
