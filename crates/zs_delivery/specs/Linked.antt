-- Two linked sessions: what happened in each, and what each has sent that the other was not given yet.
use Rattle.std.specs.Prelude.{Bool, true, false, List, [], ◌∷◌, ◌++◌, if◌then◌else◌}
use Rattle.zs_wire.specs.declared.message.Message.{Message}
use Rattle.zs_wire.specs.declared.message.Message.TheVariants.{Interest}
use Rattle.zs_events.specs.declared.event.Event.{Event}
use Rattle.zs_events.specs.declared.event.Event.TheVariants.{Net}
use Rattle.zs_core.specs.Types.{Settings}
use Rattle.zs_core.specs.Effects.{effects}
use Rattle.zs_core.specs.Received.{messages_of}
use Rattle.zs_delivery.specs.declared.side.LinkSide.{LinkSide}
use Rattle.zs_delivery.specs.declared.side.LinkSide.TheVariants.{A, B}

-- one side: its events, the newest first, and the messages that it sent and the other was not given, the oldest first
pub record Side : Type 0 where
  pub history : List Event
  pub waiting : List Message

pub record Linked : Type 0 where
  pub a : Side
  pub b : Side

-- what can happen: a side takes an event of its application, or the oldest message that waits at a side is delivered to the other
pub data LinkLine : Type 0 where
  Take : (side : LinkSide) (event : Event) → LinkLine
  Deliver : (from : LinkSide) → LinkLine

-- two new sessions
abbrev pub nothing_linked : Linked
nothing_linked = record {
  a = record { history = []; waiting = [] };
  b = record { history = []; waiting = [] };
}

-- the settings of the second session: those of the first, but for its identifier and its tag
abbrev pub other : Settings → Settings
other s = record s { zid = 2; tag = 2 }

-- what an event sends behind a history
unfoldable pub sent_at : Settings → List Event → Event → List Message
sent_at s h e = messages_of (effects s h e).effects

-- whether a message is an event of its receiver: an interest is not
abbrev pub is_event : Message → Bool
is_event (Interest id mode what wire) = false
is_event message = true

-- a side behind one more event: what that sends waits behind the rest
abbrev pub with_event : Settings → Event → Side → Side
with_event s e side = record { history = e ∷ side.history; waiting = side.waiting ++ sent_at s side.history e }

-- a side that was given a message: an interest changes nothing
abbrev pub with_message : Settings → Message → Side → Side
with_message s message side = if is_event message then with_event s (Net message) side else side

-- a side that was given the oldest of these messages, if there is one
abbrev pub with_oldest : Settings → List Message → Side → Side
with_oldest s [] side = side
with_oldest s (message ∷ later) side = with_message s message side

-- messages without the oldest
abbrev pub without_oldest : List Message → List Message
without_oldest [] = []
without_oldest (message ∷ later) = later

-- a side whose oldest message was delivered
abbrev pub taken_out : Side → Side
taken_out side = record side { waiting = without_oldest side.waiting }

-- both sides behind one more line
abbrev pub with_line : Settings → LinkLine → Linked → Linked
with_line s (Take A e) w = record w { a = with_event s e w.a }
with_line s (Take B e) w = record w { b = with_event (other s) e w.b }
with_line s (Deliver A) w = record { a = taken_out w.a; b = with_oldest (other s) w.a.waiting w.b }
with_line s (Deliver B) w = record { a = with_oldest s w.b.waiting w.a; b = taken_out w.b }

-- two sessions behind these lines, the newest first
abbrev pub linked_after : Settings → List LinkLine → Linked
linked_after s [] = nothing_linked
linked_after s (line ∷ h) = with_line s line (linked_after s h)
