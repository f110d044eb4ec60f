-- The channels of a run, by the kind and number of whom they are.
use Rattle.std.specs.Prelude.{ℕ, List, [], ◌∷◌, Option, Some, None, nat_eq, option_map}
use Rattle.std.specs.Map.{lookup}
use Rattle.indexmap.specs.IndexMap.{insert_entry}
use Rattle.zs_events.specs.declared.chan.Chan.{Chan}
use Rattle.zs_events.specs.declared.turn.Kind.{Kind}
use Rattle.zs_events.specs.declared.turn.Kind.TheVariants.{Subscriber, LivelinessSubscriber, Publisher, Queryable, Querier, Token, Listener, Get, LivelinessGet}
use Rattle.zs_channels.specs.declared.shelf.Shelf.{Shelf}
use Rattle.zs_channels.specs.declared.shelf.Shelf.TheVariants as shelf
use Rattle.zs_channels.specs.Channel.{Channel, opened, with_item, without_first, at_end}
use Rattle.zs_channels.specs.Told.{Happening, Handed, Read, Ended, ChannelNews, Opens, Hears}

-- channels by number, in the order in which they were declared
abbrev pub Rows : Type 0 → Type 0
Rows T = List (ℕ × Channel T)

-- those of subscribers, of gets and of liveliness gets
pub record Table (T : Type 0) : Type 0 where
  pub subscribers : Rows T
  pub gets : Rows T
  pub liveliness_gets : Rows T

-- where the channels of a kind are, if it has any
abbrev pub shelf_of : Kind → Option Shelf
shelf_of Subscriber = Some shelf.Subscribers
shelf_of LivelinessSubscriber = None
shelf_of Publisher = None
shelf_of Queryable = None
shelf_of Querier = None
shelf_of Token = None
shelf_of Listener = None
shelf_of Get = Some shelf.Gets
shelf_of LivelinessGet = Some shelf.LivelinessGets

module _ {T : Type 0} where
  -- the channel of a number
  abbrev pub channel_in : ℕ → Rows T → Option (Channel T)
  channel_in id rows = lookup (nat_eq id) rows

  -- the rows with a channel under a number, if there is one to be put there
  abbrev pub with_channel : ℕ → Option (Channel T) → Rows T → Rows T
  with_channel id None rows = rows
  with_channel id (Some c) rows = insert_entry nat_eq rows id c

  -- the rows with the channel of a number changed, if it has one
  abbrev pub with_changed : ℕ → (Channel T → Channel T) → Rows T → Rows T
  with_changed id change rows = with_channel id (option_map change (channel_in id rows)) rows

  -- the rows of a shelf, and a table with other ones there
  abbrev pub rows_on : Option Shelf → Table T → Rows T
  rows_on None t = []
  rows_on (Some shelf.Subscribers) t = t.subscribers
  rows_on (Some shelf.Gets) t = t.gets
  rows_on (Some shelf.LivelinessGets) t = t.liveliness_gets

  abbrev pub with_rows : Option Shelf → Rows T → Table T → Table T
  with_rows None rows t = t
  with_rows (Some shelf.Subscribers) rows t = record t { subscribers = rows }
  with_rows (Some shelf.Gets) rows t = record t { gets = rows }
  with_rows (Some shelf.LivelinessGets) rows t = record t { liveliness_gets = rows }

  -- the channel of a kind and number
  abbrev pub channel_at : Kind → ℕ → Table T → Option (Channel T)
  channel_at kind id t = channel_in id (rows_on (shelf_of kind) t)

  -- the table behind a declaration
  abbrev pub with_opened : Kind → ℕ → Chan → Table T → Table T
  with_opened kind id to t = with_rows (shelf_of kind) (with_channel id (opened to) (rows_on (shelf_of kind) t)) t

  -- the table with one channel changed
  abbrev pub with_change : Kind → ℕ → (Channel T → Channel T) → Table T → Table T
  with_change kind id change t = with_rows (shelf_of kind) (with_changed id change (rows_on (shelf_of kind) t)) t

  -- what happens to a channel makes this of it
  abbrev pub after : Happening T → Channel T → Channel T
  after (Handed item) c = with_item item c
  after Read c = without_first c
  after Ended c = at_end c

  -- no channel
  abbrev pub no_channels : Table T
  no_channels = record { subscribers = []; gets = []; liveliness_gets = [] }

  -- the table behind one thing that is heard, and behind several, the newest first
  abbrev pub behind : ChannelNews T → Table T → Table T
  behind (Opens kind id to) t = with_opened kind id to t
  behind (Hears kind id what) t = with_change kind id (after what) t

  abbrev pub behind_all : List (ChannelNews T) → Table T → Table T
  behind_all [] t = t
  behind_all (news ∷ heard) t = behind news (behind_all heard t)

  -- the table behind all that was ever heard
  abbrev pub table_after : List (ChannelNews T) → Table T
  table_after heard = behind_all heard no_channels
