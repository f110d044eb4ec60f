-- Two linked sessions with a store each, which the first subscriber of each fills.
use Rattle.std.specs.Prelude.{◌≡◌, ℕ, true, false, List, [], ◌∷◌, ◌++◌, drop, Some, IsUtf8, codes, encode_utf8_all}
use Rattle.std.specs.List.{AllByRecursion}
use Rattle.std.specs.Str.{chars}
use Rattle.zs_keys.specs.Key.{undeclared}
use Rattle.zs_keys.specs.Matching.{intersects}
use Rattle.zs_keys.specs.Text.{is_canonical}
use Rattle.zs_wire.specs.declared.origin.Timestamp.{Timestamp}
use Rattle.zs_sample.specs.declared.locality.Locality.{Locality}
use Rattle.zs_sample.specs.declared.locality.Locality.TheVariants.{Any}
use Rattle.zs_subscriptions.specs.declared.subscriber.SubRow.{SubRow}
use Rattle.zs_events.specs.declared.chan.Chan.TheVariants.{Print}
use Rattle.zs_events.specs.declared.event.Event.{Event}
use Rattle.zs_events.specs.declared.event.Event.TheVariants.{Sub, Queryable, Publish, Get, Reply, Finish}
use Rattle.zs_events.specs.declared.key_arg.KeyArg.{KeyArg}
use Rattle.zs_events.specs.declared.key_arg.KeyArg.TheVariants.{Text}
use Rattle.zs_events.specs.declared.turn.Effect.{Effect}
use Rattle.zs_events.specs.declared.update.Update.{Update}
use Rattle.zs_model.specs.declared.settings.Settings.{Settings}
use Rattle.zs_model.specs.Settings.{default_settings}
use Rattle.zs_model.specs.Entry.{is_closed}
use Rattle.zs_model.specs.Live.{live_subs}
use Rattle.zs_model.specs.Past.{past_of}
use Rattle.zs_model.specs.Effects.{effects}
use Rattle.zs_model.specs.Received.{AreSpelled}
use Rattle.zs_delivery.specs.declared.side.LinkSide.TheVariants.{A, B}
use Rattle.zs_delivery.specs.Linked.{Side, LinkLine, Take, Deliver, other, linked_after}
use Rattle.zs_delivery.specs.Links.{AreSpelledLines}
use Rattle.zs_arrivals.specs.Arrivals.{pushes}
use Rattle.zs_store.specs.Store.{Write}
use Rattle.zs_store.specs.Laws.{HoldsBest}
use Rattle.zs_keeping.specs.Keeping.{with_effects}
use Rattle.zs_replicas.specs.Written.{written}

-- the number of the subscriber that fills a store, and the subscriber, where these keys are replicated
abbrev pub keeper : ℕ
keeper = 2

abbrev pub keeper_row : List ℕ → SubRow
keeper_row keys = record { id = keeper; origin = Any; key = undeclared keys }

-- a side declares it first, and then the queryable that answers from the store
abbrev pub keeping : List ℕ → Event
keeping keys = Sub Any (Text (chars keys)) Print

abbrev pub answering : List ℕ → Event
answering keys = Queryable Any true (Text (chars keys))

-- the newest first
abbrev pub first_events : List ℕ → List Event
first_events keys = answering keys ∷ keeping keys ∷ []

abbrev pub first_links : List ℕ → List LinkLine
first_links keys = Take B (answering keys) ∷ Take B (keeping keys) ∷ Take A (answering keys) ∷ Take A (keeping keys) ∷ []

-- a session of these settings is open behind these events, and has that subscriber alone
pub record Starts (s : Settings) (keys : List ℕ) (first : List Event) : Type 0 where
  pub unshut : is_closed (past_of s first) ≡ false
  pub subs : live_subs (past_of s first) ≡ keeper_row keys ∷ []

-- so do the sessions of a program, where all keys below `r` are replicated
pub record DefaultSessionsStart : Type 0 where
  pub first : Starts default_settings (codes "r/**") (first_events (codes "r/**"))
  pub second : Starts (other default_settings) (codes "r/**") (first_events (codes "r/**"))

-- what an event brings about behind a history
unfoldable pub effects_at : Settings → List Event → Event → List Effect
effects_at s h e = (effects s h e).effects

-- what the turns of a history leave in the store that its subscriber fills
abbrev pub stored : Settings → List Event → List Write
stored s [] = []
stored s (e ∷ h) = with_effects keeper (effects_at s h e) (stored s h)

-- a write at a replicated key
pub record IsWrite (keys : List ℕ) (destination : Locality) (text : List ℕ) (update : Update) : Type 0 where
  pub time : Timestamp
  pub anywhere : destination ≡ Any
  pub canonical : is_canonical (encode_utf8_all text) ≡ true
  pub replicated : intersects (encode_utf8_all text) keys ≡ true
  pub timed : update.timestamp ≡ Some time

abbrev pub IsWriteAt : List ℕ → Locality → KeyArg → Update → Type 0
IsWriteAt keys destination (Text text) update = IsWrite keys destination text update
IsWriteAt keys destination key update = ⊥

-- what a side takes by itself behind these two: writes at replicated keys, questions, and what answers those
abbrev pub IsReplicaEvent : List ℕ → Event → Type 0
IsReplicaEvent keys (Publish destination key update quality) = IsWriteAt keys destination key update
IsReplicaEvent keys (Get key settings inquiry to) = Unit {0}
IsReplicaEvent keys (Reply value key update quality) = Unit {0}
IsReplicaEvent keys (Finish value) = Unit {0}
IsReplicaEvent keys e = ⊥

abbrev pub IsReplicaLine : List ℕ → LinkLine → Type 0
IsReplicaLine keys (Take side e) = IsReplicaEvent keys e
IsReplicaLine keys (Deliver from) = Unit {0}

abbrev pub AreReplicaLines : List ℕ → List LinkLine → Type 0
AreReplicaLines keys lines = AllByRecursion (IsReplicaLine keys) lines

-- what a side took: what its own application wrote, and what the other one did, but for the newest, whose pushes wait
abbrev pub took : Side → Side → List Write
took side opposite = written side.history ++ drop (pushes opposite.waiting) (written opposite.history)

-- the store of each side has at each key the greatest entry of what that side took, and no other key; and where no push waits, both
-- stores are equal
pub record BothStore (s : Settings) (a b : Side) : Type 0 where
  pub of_a : HoldsBest (took a b) (stored s a.history)
  pub of_b : HoldsBest (took b a) (stored (other s) b.history)
  pub same : pushes a.waiting ≡ 0 → pushes b.waiting ≡ 0 → stored s a.history ≡ stored (other s) b.history

-- behind every schedule, whatever keys are replicated
abbrev pub StoresHoldWhatWasWritten : Type 0
StoresHoldWhatWasWritten =
    (s : Settings) (keys : List ℕ) (lines : List LinkLine) → IsUtf8 keys → AreSpelled s → Starts s keys (first_events keys) → Starts (other s) keys (first_events keys)
    → AreReplicaLines keys lines → AreSpelledLines lines
    → BothStore s (linked_after s (lines ++ first_links keys)).a (linked_after s (lines ++ first_links keys)).b
