-- Laws of the definitions, by which a reader may check them.
use Rattle.std.specs.Prelude.{◌≡◌, ℕ, ◌≤◌, Bool, true, false, List, ◌++◌, length, None, option_map}
use Rattle.std.specs.List.{list_all}
use Rattle.zs_events.specs.declared.chan.Chan.{Chan}
use Rattle.zs_events.specs.declared.chan.Chan.TheVariants.{Print, Fifo, Ring}
use Rattle.zs_events.specs.declared.turn.Kind.{Kind}
use Rattle.zs_channels.specs.Told.{Happening, ChannelNews, has_ended, held, state, channel_of, handed, read_of, items_in, all_handed}
use Rattle.zs_channels.specs.Table.{Table, shelf_of, channel_at, with_opened, table_after}

module _ (T : Type 0) where
  -- after any calls each channel is what has happened to it, whatever happened to others
  abbrev pub ChannelsAreTold : Type 0
  ChannelsAreTold = (heard : List (ChannelNews T)) (kind : Kind) (id : ℕ) → channel_at kind id (table_after heard) ≡ option_map state (channel_of kind id heard)

  -- what was read of a fifo and what is in it is all that was handed over, in order
  abbrev pub FifoGivesAll : Type 0
  FifoGivesAll = (size : ℕ) (since : List (Happening T)) → read_of (Fifo size) since ++ held (Fifo size) since ≡ handed since

  -- a ring holds at most its size, and nothing but the last that was handed over
  abbrev pub HoldsLast : ℕ → List (Happening T) → Type 0
  HoldsLast size since = (length (held (Ring size) since) ≤ size) × ((before : List T) × (before ++ held (Ring size) since ≡ handed since))

  abbrev pub RingKeepsNewest : Type 0
  RingKeepsNewest = (size : ℕ) (since : List (Happening T)) → has_ended since ≡ false → HoldsLast size since

  -- what passes a test of each item that was handed over, whomever to, passes it of each item in a channel
  abbrev pub HoldsHanded : Type 0
  HoldsHanded =
      (test : T → Bool) (heard : List (ChannelNews T)) (kind : Kind) (id : ℕ) → list_all test (all_handed heard) ≡ true
      → list_all test (items_in (channel_of kind id heard)) ≡ true

  -- what is printed alone opens nothing
  abbrev pub PrintOpensNothing : Type 0
  PrintOpensNothing = (kind : Kind) (id : ℕ) (t : Table T) → with_opened kind id Print t ≡ t

  -- nor does a kind that can have no channels, whichever it names
  abbrev pub OthersOpenNothing : Type 0
  OthersOpenNothing = (kind : Kind) (id : ℕ) (to : Chan) (t : Table T) → shelf_of kind ≡ None → with_opened kind id to t ≡ t
