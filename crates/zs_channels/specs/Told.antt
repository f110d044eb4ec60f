-- Channels as they were declared, and what has happened to each since: by these alone it is told what each holds.
use Rattle.std.specs.Prelude.{ℕ, ◌==◌, ◌&&◌, Bool, true, false, List, [], ◌∷◌, ◌++◌, drop, take, Option, Some, None, option_map, if◌then◌else◌}
use Rattle.std.specs.List.{list_any}
use Rattle.zs_events.specs.declared.chan.Chan.{Chan}
use Rattle.zs_events.specs.declared.turn.Kind.{Kind}
use Rattle.zs_events.specs.declared.turn.Kind.TheVariants.{Subscriber, Get, LivelinessGet}
use Rattle.zs_channels.specs.Channel.{Channel, is_channel, kept_in, left_in}

-- what happens to a channel: an item is handed over, one is read, or its callback ends
pub data Happening (T : Type 0) : Type 0 where
  Handed : (item : T) → Happening T
  Read : Happening T
  Ended : Happening T

-- what is heard of channels: that one is declared for a kind and number, or what happens to that of a kind and number
pub data ChannelNews (T : Type 0) : Type 0 where
  Opens : (kind : Kind) → (id : ℕ) → (to : Chan) → ChannelNews T
  Hears : (kind : Kind) → (id : ℕ) → (what : Happening T) → ChannelNews T

-- a channel as it was declared, and what has happened to it since, the newest first
pub record Declared (T : Type 0) : Type 0 where
  pub to : Chan
  pub since : List (Happening T)

-- the same kind, of the three that have channels
abbrev pub is_same : Kind → Kind → Bool
is_same Subscriber Subscriber = true
is_same Get Get = true
is_same LivelinessGet LivelinessGet = true
is_same kind other = false

module _ {T : Type 0} where
  -- whether that is the end
  abbrev pub is_end : Happening T → Bool
  is_end (Handed item) = false
  is_end Read = false
  is_end Ended = true

  -- whether a channel's callback has ended
  abbrev pub has_ended : List (Happening T) → Bool
  has_ended since = list_any is_end since

  -- the items in a channel: each one that is handed over stands behind those that are there, of which a ring keeps the
  -- newest; a read takes the first; a ring's are gone at the end, behind which none is handed over
  abbrev pub held : Chan → List (Happening T) → List T
  held to [] = []
  held to (Handed item ∷ since) = if has_ended since then held to since else kept_in to (held to since ++ item ∷ [])
  held to (Read ∷ since) = drop 1 (held to since)
  held to (Ended ∷ since) = left_in to (held to since)

  -- a channel by what has happened to it
  abbrev pub state : Declared T → Channel T
  state d = record { to = d.to; items = held d.to d.since; ended = has_ended d.since }

  -- a channel to which one thing more has happened
  abbrev pub hearing : Happening T → Declared T → Declared T
  hearing what d = record d { since = what ∷ d.since }

  -- a channel that is declared just now, or else the one that there was
  abbrev pub declared_or : Option (Declared T) → Chan → Option (Declared T)
  declared_or before to = if is_channel to then Some (record { to = to; since = [] }) else before

  -- the channel of a kind and number, by all that was heard, the newest first
  abbrev pub channel_of : Kind → ℕ → List (ChannelNews T) → Option (Declared T)
  channel_of kind id [] = None
  channel_of kind id (Opens k n to ∷ heard) = if is_same kind k && (id == n) then declared_or (channel_of kind id heard) to else channel_of kind id heard
  channel_of kind id (Hears k n what ∷ heard) = if is_same kind k && (id == n) then option_map (hearing what) (channel_of kind id heard) else channel_of kind id heard

  -- the items that were handed over before the end
  abbrev pub handed : List (Happening T) → List T
  handed [] = []
  handed (Handed item ∷ since) = if has_ended since then handed since else handed since ++ item ∷ []
  handed (Read ∷ since) = handed since
  handed (Ended ∷ since) = handed since

  -- the items that were read
  abbrev pub read_of : Chan → List (Happening T) → List T
  read_of to [] = []
  read_of to (Handed item ∷ since) = read_of to since
  read_of to (Read ∷ since) = read_of to since ++ take 1 (held to since)
  read_of to (Ended ∷ since) = read_of to since

  -- the items in a channel, if there is one
  abbrev pub items_in : Option (Declared T) → List T
  items_in None = []
  items_in (Some d) = held d.to d.since

  -- all items that were handed over, to whomever
  abbrev pub all_handed : List (ChannelNews T) → List T
  all_handed [] = []
  all_handed (Opens kind id to ∷ heard) = all_handed heard
  all_handed (Hears kind id (Handed item) ∷ heard) = item ∷ all_handed heard
  all_handed (Hears kind id Read ∷ heard) = all_handed heard
  all_handed (Hears kind id Ended ∷ heard) = all_handed heard
