-- What contracts see of two linked sessions, and which linked histories they stand for.
use Rattle.std.specs.Prelude.{◌≡◌, Bool, true, false, List, [], ◌∷◌, if◌then◌else◌}
use Rattle.zs_wire.specs.declared.message.Message.{Message}
use Rattle.zs_events.specs.declared.event.Event.{Event}
use Rattle.zs_events.specs.declared.event.Event.TheVariants.{Net}
use Rattle.zs_events.specs.declared.turn.Turn.{Turn}
use Rattle.zs_core.specs.Types.{Settings}
use Rattle.zs_core.specs.World.{World as Tables}
use Rattle.zs_exchange.specs.Handlers.{AreGates, AreBare}
use Rattle.zs_session_cell.specs.Core.{turn_at, StandsFor}
use Rattle.zs_session_cell.specs.Cells.{CellSeen}
use Rattle.zs_delivery.specs.declared.side.LinkSide.{LinkSide}
use Rattle.zs_delivery.specs.declared.side.LinkSide.TheVariants.{A, B}
use Rattle.zs_delivery.specs.Linked.{Side, Linked, Take, Deliver, nothing_linked, other, is_event, with_event, with_oldest, without_oldest, taken_out, with_line}
use Rattle.zs_link.specs.declared.world.Delivered.{Delivered}
use Rattle.zs_link.specs.declared.world.Delivered.TheVariants.{Nothing, Dropped, Taken}

-- a side: its core's tables, and the messages that it sent and the other was not given, the oldest first
pub record SideSeen : Type 0 where
  pub world : Tables
  pub waiting : List Message

-- both sides
pub record LinkSeen : Type 0 where
  pub a : SideSeen
  pub b : SideSeen

-- a cell that keeps what is sent and holds no handler, nor do the posts that wait to be given out
pub record IsWithoutHandlers {H : Type 0} (cell : CellSeen H) : Type 0 where
  pub keeps : cell.exchange.keeps ≡ true
  pub gates : AreGates cell.exchange.posts.rows
  pub bare : AreBare cell.exchange.posts.ready

-- a side stands for settings and for what happened at it
pub record StandsAs (x : SideSeen) (s : Settings) (side : Side) : Type 0 where
  pub stands : StandsFor x.world s side.history
  pub waits : x.waiting ≡ side.waiting

-- both sides stand for the settings of the first and for what happened at them
pub record StandAs (x : LinkSeen) (s : Settings) (w : Linked) : Type 0 where
  pub a : StandsAs x.a s w.a
  pub b : StandsAs x.b (other s) w.b

-- nothing has happened
abbrev pub IsNew : SideSeen → Settings → Type 0
IsNew x s = StandsAs x s (record { history = []; waiting = [] })

abbrev pub AreNew : LinkSeen → Settings → Type 0
AreNew x s = StandAs x s nothing_linked

-- a side took an event: whatever it stands for, the turn is the event's, and what that sends waits behind the rest
abbrev pub TakesEvent : Event → SideSeen → Turn → SideSeen → Type 0
TakesEvent e old turn new =
    (s : Settings) (side : Side) → StandsAs old s side → (turn ≡ turn_at s side.history e) × StandsAs new s (with_event s e side)

-- a side without the oldest message that waits
abbrev pub without_first : SideSeen → SideSeen
without_first x = record x { waiting = without_oldest x.waiting }

-- what comes of the delivery of the oldest of these messages
abbrev pub delivered_of : Settings → List Message → List Event → Delivered
delivered_of s [] h = Nothing
delivered_of s (message ∷ later) h = if is_event message then Taken (turn_at s h (Net message)) else Dropped

-- the oldest message of one side was given to the other: whatever they stand for, it waits no longer, and what came of it is its turn there
abbrev pub Passes : SideSeen → SideSeen → Delivered → SideSeen → SideSeen → Type 0
Passes from to delivered new_from new_to =
    (s t : Settings) (x y : Side) → StandsAs from s x → StandsAs to t y
    → (delivered ≡ delivered_of t x.waiting y.history) × StandsAs new_from s (taken_out x) × StandsAs new_to t (with_oldest t x.waiting y)

-- the turn of an event that a side takes
abbrev pub turn_for : Settings → LinkSide → Linked → Event → Turn
turn_for s A w e = turn_at s w.a.history e
turn_for s B w e = turn_at (other s) w.b.history e

-- a side took an event: whatever both stand for, the turn is the event's, and they stand for what is so behind it
abbrev pub Takes : LinkSide → Event → LinkSeen → Turn → LinkSeen → Type 0
Takes side e old turn new =
    (s : Settings) (w : Linked) → StandAs old s w → (turn ≡ turn_for s side w e) × StandAs new s (with_line s (Take side e) w)

-- what comes of a delivery
abbrev pub delivery_from : Settings → LinkSide → Linked → Delivered
delivery_from s A w = delivered_of (other s) w.a.waiting w.b.history
delivery_from s B w = delivered_of s w.b.waiting w.a.history

-- the oldest message of a side was delivered: whatever both stand for, they stand for what is so behind it
abbrev pub Delivers : LinkSide → LinkSeen → Delivered → LinkSeen → Type 0
Delivers from old delivered new =
    (s : Settings) (w : Linked) → StandAs old s w → (delivered ≡ delivery_from s from w) × StandAs new s (with_line s (Deliver from) w)

-- the first of these messages is an event of its receiver, or an interest
abbrev pub BeginsWith : Bool → List Message → Type 0
BeginsWith event [] = ⊥
BeginsWith event (message ∷ later) = is_event message ≡ event

-- what was delivered is of the sort of the oldest message that waited: there was none, an interest, or an event
abbrev pub IsOldest : Delivered → List Message → Type 0
IsOldest Nothing messages = messages ≡ []
IsOldest Dropped messages = BeginsWith false messages
IsOldest (Taken turn) messages = BeginsWith true messages

-- what waits at a side
abbrev pub waiting_of : LinkSide → LinkSeen → List Message
waiting_of A x = x.a.waiting
waiting_of B x = x.b.waiting
