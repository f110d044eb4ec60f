-- What a channel holds and answers, and what each call makes of it.
use Rattle.std.specs.Prelude.{ℕ, ◌-◌, ◌==◌, Bool, true, false, not, List, [], ◌∷◌, ◌++◌, length, drop, Option, Some, None, if◌then◌else◌}
use Rattle.zs_events.specs.declared.chan.Chan.{Chan}
use Rattle.zs_events.specs.declared.chan.Chan.TheVariants.{Print, Fifo, Ring}
use Rattle.zs_events.specs.declared.received.Received.{Received}
use Rattle.zs_events.specs.declared.received.Received.TheVariants.{Item, Empty, Disconnected, Deleted}

-- a channel as it was declared, its items, the first to come first, and whether the callback of whom it is has ended
pub record Channel (T : Type 0) : Type 0 where
  pub to : Chan
  pub items : List T
  pub ended : Bool

-- whether that is a channel: a fifo or a ring that has a size
abbrev pub is_channel : Chan → Bool
is_channel Print = false
is_channel (Fifo size) = not (size == 0)
is_channel (Ring size) = not (size == 0)

module _ {T : Type 0} where
  -- the last so many items
  abbrev pub newest : ℕ → List T → List T
  newest size items = drop (length items - size) items

  -- the items that stay in a channel: of a ring's the newest ones
  abbrev pub kept_in : Chan → List T → List T
  kept_in Print items = items
  kept_in (Fifo size) items = items
  kept_in (Ring size) items = newest size items

  -- the items that are left where the callback ends: those of a ring are gone
  abbrev pub left_in : Chan → List T → List T
  left_in Print items = items
  left_in (Fifo size) items = items
  left_in (Ring size) items = []

  -- what a channel without items answers
  abbrev pub nothing_in : Chan → Bool → Received T
  nothing_in to false = Empty
  nothing_in Print true = Disconnected
  nothing_in (Fifo size) true = Disconnected
  nothing_in (Ring size) true = Deleted

  -- what one with these items answers, or else this
  abbrev pub first_or : Received T → List T → Received T
  first_or nothing [] = nothing
  first_or nothing (item ∷ items) = Item item

  -- the channel that is declared, if that is one
  abbrev pub opened : Chan → Option (Channel T)
  opened to = if is_channel to then Some (record { to = to; items = []; ended = false }) else None

  -- a channel behind an item that is handed over: once its callback has ended it takes none
  abbrev pub with_item : T → Channel T → Channel T
  with_item item c = record c { items = if c.ended then c.items else kept_in c.to (c.items ++ item ∷ []) }

  -- behind a read
  abbrev pub without_first : Channel T → Channel T
  without_first c = record c { items = drop 1 c.items }

  -- and behind the end of its callback
  abbrev pub at_end : Channel T → Channel T
  at_end c = record c { items = left_in c.to c.items; ended = true }

  -- what a read is answered
  abbrev pub received : Channel T → Received T
  received c = first_or (nothing_in c.to c.ended) c.items
