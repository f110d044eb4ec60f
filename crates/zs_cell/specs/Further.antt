-- Events by which a call gives back queries that came back to it from a handler.
use Rattle.std.specs.Prelude.{◌≡◌, ℕ, Bool, true, false, List, [], ◌∷◌}
use Rattle.zs_wire.specs.declared.message.Message.{Message}
use Rattle.zs_wire.specs.declared.message.Message.TheVariants.{Request}
use Rattle.zs_events.specs.declared.event.Event.{Event}
use Rattle.zs_events.specs.declared.event.Event.TheVariants.{Get, QuerierGet, Net, Finish}
use Rattle.zs_events.specs.declared.turn.Turn.{Turn}
use Rattle.zs_core.specs.Types.{Settings}
use Rattle.zs_session_cell.specs.Core.{turn_at}
use Rattle.zs_books.specs.Callers.{CallerSeen}
use Rattle.zs_held.specs.Held.{entered}
use Rattle.zs_held.specs.Receipts.{ReceiptSeen}

-- whether a message is a request
abbrev pub is_request : Message → Bool
is_request (Request request) = true
is_request message = false

-- whether an event asks queryables, so that its turn may hand queries to handlers: a get, a get of a querier, or a request from the network
abbrev pub asks_queryables : Event → Bool
asks_queryables (Get key settings inquiry to) = true
asks_queryables (QuerierGet id inquiry to) = true
asks_queryables (Net message) = is_request message
asks_queryables event = false

-- the session of those settings took that event beside the one that the call names: the caller counts one event more, with the messages
-- of its turn, and keeps the receipt that it has
pub record Adds (s : Settings) (event : Event) (old new : CallerSeen ReceiptSeen) : Type 0 where
  pub before : List Event
  pub turn : Turn
  pub turn_is : turn ≡ turn_at s before event
  pub caller_is : new ≡ entered turn old

-- the queries of these numbers were given back, each by one event
abbrev pub AddsFinishes : Settings → List ℕ → CallerSeen ReceiptSeen → CallerSeen ReceiptSeen → Type 0
AddsFinishes s [] old new = new ≡ old
AddsFinishes s (value ∷ values) old new = (mid : CallerSeen ReceiptSeen) × (Adds s (Finish value) old mid × AddsFinishes s values mid new)

-- some queries were given back, or none
pub record AddsSome (s : Settings) (old new : CallerSeen ReceiptSeen) : Type 0 where
  pub values : List ℕ
  pub finishes : AddsFinishes s values old new
