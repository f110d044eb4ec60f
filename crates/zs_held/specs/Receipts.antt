-- Receipts for events that a session took.
use Rattle.std.specs.Prelude.{ℕ, Bool, Option, Some, None}
use Rattle.zs_events.specs.declared.event.Event.{Event}
use Rattle.zs_events.specs.declared.turn.Turn.{Turn}
use Rattle.zs_posts.specs.declared.key.Key.{Key}
use Rattle.zs_held.specs.declared.asked.Asked.{Asked}

-- the place of the event in the session's journal, the first being 1; how many events the session has taken from this caller,
-- with this one; the event, whether it came with a handler, and its turn; and the gate that the session was asked for with it
pub record ReceiptSeen : Type 0 where
  pub place : ℕ
  pub count : ℕ
  pub event : Event
  pub came : Bool
  pub turn : Turn
  pub asked : Option Asked

-- that a session was asked for the gate of a key, if it was, and whether it still held it
abbrev pub asked_of : Option Key → Bool → Option Asked
asked_of None held = None
asked_of (Some key) held = Some (record { key = key; held = held })
