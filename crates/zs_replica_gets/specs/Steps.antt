-- Two linked sessions with a store each: what their applications write and ask, and what each side answers from its store.
use Rattle.std.specs.Prelude.{◌≡◌, ℕ, true, false, List, [], ◌∷◌, ◌++◌, Option, Some, None, filter, if◌then◌else◌}
use Rattle.std.specs.List.{AllByRecursion}
use Rattle.std.specs.Str.{all_scalars}
use Rattle.zs_keys.specs.Key.{undeclared}
use Rattle.zs_keys.specs.Matching.{intersects}
use Rattle.zs_wire.specs.declared.message.Message.{Message}
use Rattle.zs_wire.specs.declared.quality.CongestionControl.TheVariants.{Block}
use Rattle.zs_wire.specs.declared.request.ConsolidationMode.TheVariants.{Latest}
use Rattle.zs_wire.specs.declared.request.QueryTarget.TheVariants.{BestMatching}
use Rattle.zs_sample.specs.declared.locality.Locality.TheVariants.{Any}
use Rattle.zs_tables.specs.declared.queryable.QueryableRow.{QueryableRow}
use Rattle.zs_events.specs.declared.chan.Chan.TheVariants.{Print}
use Rattle.zs_events.specs.declared.event.Event.{Event}
use Rattle.zs_events.specs.declared.event.Event.TheVariants.{Publish, Get, Net}
use Rattle.zs_events.specs.declared.inquiry.Inquiry.{Inquiry}
use Rattle.zs_events.specs.declared.inquiry.QuerySettings.{QuerySettings}
use Rattle.zs_events.specs.declared.key_arg.KeyArg.TheVariants.{Text}
use Rattle.zs_events.specs.declared.publication.PublicationQuality.{PublicationQuality}
use Rattle.zs_events.specs.declared.turn.Effect.{Effect}
use Rattle.zs_events.specs.declared.update.Update.{Update}
use Rattle.zs_model.specs.declared.settings.Settings.{Settings}
use Rattle.zs_delivery.specs.declared.side.LinkSide.{LinkSide}
use Rattle.zs_delivery.specs.declared.side.LinkSide.TheVariants.{A, B}
use Rattle.zs_delivery.specs.Linked.{Side, Linked, LinkLine, Take, Deliver, other, is_event, linked_after}
use Rattle.zs_store.specs.Store.{Write}
use Rattle.zs_keeping.specs.Answering.{answers_to}
use Rattle.zs_replicas.specs.Replicas.{first_links, effects_at, stored, IsWrite}

-- what happens: an application writes, or asks, or the oldest message of a side is delivered to the other
pub data Step : Type 0 where
  Writes : (side : LinkSide) (text : List ℕ) (update : Update) (quality : PublicationQuality) → Step
  Asks : (side : LinkSide) (text : List ℕ) → Step
  Moves : (from : LinkSide) → Step

-- a get of both sides that is handed the newest reply of each key
abbrev pub asking_settings : QuerySettings
asking_settings = record {
  destination = Any;
  target = BestMatching;
  consolidation = Latest;
  timeout = None;
  qos = record { priority = 5; congestion = Block; express = false };
  any_key = false;
}

abbrev pub asking_inquiry : Inquiry
asking_inquiry = record { parameters = []; value = None; source = None; attachment = None; cancellation_token = None }

abbrev pub question : List ℕ → Event
question text = Get (Text text) asking_settings asking_inquiry Print

abbrev pub writing : List ℕ → Update → PublicationQuality → Event
writing text update quality = Publish Any (Text text) update quality

-- the number of the queryable that answers from a store, and the queryable
abbrev pub answerer : ℕ
answerer = 3

abbrev pub answerer_row : List ℕ → QueryableRow
answerer_row keys = record { id = answerer; origin = Any; complete = true; key = undeclared keys }

-- what is written at keys that meet one, where that meets a replicated key
abbrev pub meeting : List ℕ → List ℕ → List Write → List Write
meeting keys key store = if intersects key keys then filter (λ w. intersects key w.key) store else []

abbrev pub settings_of : LinkSide → Settings → Settings
settings_of A s = s
settings_of B s = other s

abbrev pub side_of : LinkSide → Linked → Side
side_of A w = w.a
side_of B w = w.b

abbrev pub opposite : LinkSide → LinkSide
opposite A = B
opposite B = A

-- the store of a side behind these lines, and what an event brings about there
abbrev pub store_at : Settings → LinkSide → List LinkLine → List Write
store_at s side links = stored (settings_of side s) (side_of side (linked_after s links)).history

abbrev pub brought : Settings → LinkSide → Event → List LinkLine → List Effect
brought s side e links = effects_at (settings_of side s) (side_of side (linked_after s links)).history e

-- a side takes these events, the first first; and all that they bring about
abbrev pub all_taken : LinkSide → List Event → List LinkLine → List LinkLine
all_taken side [] links = links
all_taken side (e ∷ es) links = all_taken side es (Take side e ∷ links)

abbrev pub all_brought : Settings → LinkSide → List Event → List LinkLine → List Effect
all_brought s side [] links = []
all_brought s side (e ∷ es) links = brought s side e links ++ all_brought s side es (Take side e ∷ links)

-- the events by which a side answers, from its store, the queries among effects
abbrev pub answers : Settings → LinkSide → List Effect → List LinkLine → List Event
answers s side fx links = answers_to answerer (store_at s side links) fx

-- behind a line by which a side takes an event, if it takes one: the queries that it brings are answered at once
abbrev pub behind : Settings → LinkSide → Option Event → LinkLine → List LinkLine → List LinkLine
behind s side None line links = line ∷ links
behind s side (Some e) line links = all_taken side (answers s side (brought s side e links) (line ∷ links)) (line ∷ links)

-- and all that this brings about
abbrev pub brought_by : Settings → LinkSide → Option Event → LinkLine → List LinkLine → List Effect
brought_by s side None line links = []
brought_by s side (Some e) line links =
    brought s side e links ++ all_brought s side (answers s side (brought s side e links) (line ∷ links)) (line ∷ links)

-- the side that a step has take something, what it takes, and the line
abbrev pub actor : Step → LinkSide
actor (Writes side text update quality) = side
actor (Asks side text) = side
actor (Moves from) = opposite from

abbrev pub oldest_event : List Message → Option Event
oldest_event [] = None
oldest_event (m ∷ later) = if is_event m then Some (Net m) else None

abbrev pub event_of : Settings → Step → List LinkLine → Option Event
event_of s (Writes side text update quality) links = Some (writing text update quality)
event_of s (Asks side text) links = Some (question text)
event_of s (Moves from) links = oldest_event (side_of from (linked_after s links)).waiting

abbrev pub line_of : Step → LinkLine
line_of (Writes side text update quality) = Take side (writing text update quality)
line_of (Asks side text) = Take side (question text)
line_of (Moves from) = Deliver from

-- behind a step, and all that it brings about
abbrev pub with_step : Settings → Step → List LinkLine → List LinkLine
with_step s step links = behind s (actor step) (event_of s step links) (line_of step) links

abbrev pub step_effects : Settings → Step → List LinkLine → List Effect
step_effects s step links = brought_by s (actor step) (event_of s step links) (line_of step) links

-- behind these steps, the newest first
abbrev pub links_after : Settings → List ℕ → List Step → List LinkLine
links_after s keys [] = first_links keys
links_after s keys (step ∷ h) = with_step s step (links_after s keys h)

-- writes at replicated keys, and questions, on keys that are spelled with characters
abbrev pub IsReplicaStep : List ℕ → Step → Type 0
IsReplicaStep keys (Writes side text update quality) = IsWrite keys Any text update × (all_scalars text ≡ true)
IsReplicaStep keys (Asks side text) = all_scalars text ≡ true
IsReplicaStep keys (Moves from) = Unit {0}

abbrev pub AreReplicaSteps : List ℕ → List Step → Type 0
AreReplicaSteps keys steps = AllByRecursion (IsReplicaStep keys) steps
