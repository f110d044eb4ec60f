-- Two linked sessions with a store each, as the lines leave them: all is read off what the sides took and delivered.
use Rattle.std.specs.Prelude.{ℕ, zero, suc, List, [], ◌∷◌, ◌++◌, length, true, codes, decimal}
use Rattle.std.specs.Str.{chars}
use Rattle.zs_wire.specs.declared.message.Message.{Message}
use Rattle.zs_sample.specs.declared.locality.Locality.TheVariants.{Any}
use Rattle.zs_events.specs.declared.chan.Chan.TheVariants.{Print}
use Rattle.zs_events.specs.declared.event.Event.{Event}
use Rattle.zs_events.specs.declared.event.Event.TheVariants.{Sub, Queryable}
use Rattle.zs_events.specs.declared.key_arg.KeyArg.TheVariants.{Text}
use Rattle.zs_events.specs.declared.turn.Effect.{Effect}
use Rattle.zs_events.specs.declared.turn.Turn.{Turn}
use Rattle.zs_core.specs.Types.{Settings}
use Rattle.zs_session_cell.specs.Core.{turn_at}
use Rattle.zs_printing.specs.Printing.{line, answer_fields}
use Rattle.zs_delivery.specs.declared.side.LinkSide.{LinkSide}
use Rattle.zs_delivery.specs.declared.side.LinkSide.TheVariants.{A, B}
use Rattle.zs_delivery.specs.Linked.{Side, Linked, LinkLine, Take, Deliver, other, linked_after}
use Rattle.zs_link.specs.declared.world.Delivered.{Delivered}
use Rattle.zs_link.specs.declared.world.Delivered.TheVariants.{Nothing, Dropped, Taken}
use Rattle.zs_link.specs.World.{turn_for, delivery_from}
use Rattle.zs_store.specs.Store.{Write}
use Rattle.zs_keeping.specs.Keeping.{with_effects}
use Rattle.zs_keeping.specs.Answering.{answers_to}
use Rattle.zs_replica_lines.specs.Lines.{all_keys}
use Rattle.zs_replica_lines.specs.Shown.{ends_text}

-- the numbers of the subscriber and of the queryable that each side declares first
abbrev pub keeper : ℕ
keeper = 2

abbrev pub answerer : ℕ
answerer = 3

abbrev pub keeping : Event
keeping = Sub Any (Text (chars all_keys)) Print

abbrev pub answering : Event
answering = Queryable Any true (Text (chars all_keys))

-- both sides declared them, the first side first; the newest first
abbrev pub first_links : List LinkLine
first_links = Take B answering ∷ Take B keeping ∷ Take A answering ∷ Take A keeping ∷ []

abbrev pub settings_of : LinkSide → Settings → Settings
settings_of A s = s
settings_of B s = other s

abbrev pub side_of : LinkSide → Linked → Side
side_of A w = w.a
side_of B w = w.b

-- what the turns of a history leave in the store that its subscriber fills
abbrev pub kept : Settings → List Event → List Write
kept s [] = []
kept s (e ∷ h) = with_effects keeper (turn_at s h e).effects (kept s h)

-- the store of a side
abbrev pub store_at : Settings → LinkSide → List LinkLine → List Write
store_at s side links = kept (settings_of side s) (side_of side (linked_after s links)).history

-- what was taken and delivered, the newest first, and what is printed of the line so far
pub record Told : Type 0 where
  pub links : List LinkLine
  pub text : List ℕ

abbrev pub letter : LinkSide → List ℕ
letter A = codes "a"
letter B = codes "b"

-- the side that a message of this one goes to
abbrev pub opposite : LinkSide → LinkSide
opposite A = B
opposite B = A

abbrev pub with_text : List ℕ → Told → Told
with_text more t = record { links = t.links; text = t.text ++ more }

abbrev pub with_link : LinkLine → Told → Told
with_link link t = record { links = link ∷ t.links; text = t.text }

-- the turn of an event that a side takes next
abbrev pub next_turn : Settings → LinkSide → Event → Told → Turn
next_turn s side e t = turn_for s side (linked_after s t.links) e

-- a side takes an event, and what its gets got is printed
abbrev pub with_taken : Settings → ℕ → LinkSide → Event → Told → Told
with_taken s number side e t = with_text (ends_text number (letter side) (next_turn s side e t).effects) (with_link (Take side e) t)

-- these events, the first first
abbrev pub with_all : Settings → ℕ → LinkSide → List Event → Told → Told
with_all s number side [] t = t
with_all s number side (e ∷ es) t = with_all s number side es (with_taken s number side e t)

-- what a side's gets got of effects is printed, and the side answers the queries among them from its store
abbrev pub with_answers : Settings → ℕ → LinkSide → List Effect → Told → Told
with_answers s number side effects t = with_all s number side (answers_to answerer (store_at s side t.links) effects) t

abbrev pub with_effects_told : Settings → ℕ → LinkSide → List Effect → Told → Told
with_effects_told s number side effects t = with_answers s number side effects (with_text (ends_text number (letter side) effects) t)

-- the answer of a turn is printed before
abbrev pub with_turn : Settings → ℕ → LinkSide → Turn → Told → Told
with_turn s number side turn t = with_effects_told s number side turn.effects (with_text (line number (answer_fields turn.answer)) t)

-- a side takes the event of a line
abbrev pub with_said : Settings → ℕ → LinkSide → Event → Told → Told
with_said s number side e t = with_turn s number side (next_turn s side e t) (with_link (Take side e) t)

-- what came of the delivery of a message
abbrev pub with_delivered : Settings → ℕ → LinkSide → Delivered → Told → Told
with_delivered s number from Nothing t = t
with_delivered s number from Dropped t = t
with_delivered s number from (Taken turn) t = with_effects_told s number (opposite from) turn.effects t

-- the oldest message of a side is delivered
abbrev pub with_oldest : Settings → ℕ → LinkSide → Told → Told
with_oldest s number from t = with_delivered s number from (delivery_from s from (linked_after s t.links)) (with_link (Deliver from) t)

-- so many messages are
abbrev pub with_many : Settings → ℕ → LinkSide → ℕ → Told → Told
with_many s number from zero t = t
with_many s number from (suc n) t = with_oldest s number from (with_many s number from n t)

-- how many messages of a side wait
abbrev pub waiting_at : Settings → LinkSide → List LinkLine → ℕ
waiting_at s from links = length (side_of from (linked_after s links)).waiting

-- all that wait when the line begins are delivered
abbrev pub with_count : Settings → ℕ → LinkSide → ℕ → Told → Told
with_count s number from count t = with_many s number from count (with_text (line number (codes "ok" ∷ decimal count ∷ [])) t)

abbrev pub with_moved : Settings → ℕ → LinkSide → Told → Told
with_moved s number from t = with_count s number from (waiting_at s from t.links) t
