-- The journal of a session, and what a session's cell makes of an event with it.
use Rattle.std.specs.Prelude.{◌≡◌, ℕ, Bool, List, [], ◌∷◌, ◌++◌, length, drop, Option, None, if◌then◌else◌}
use Rattle.std.specs.List.{list_any}
use Rattle.zs_events.specs.declared.event.Event.{Event}
use Rattle.zs_events.specs.declared.turn.Turn.{Turn}
use Rattle.zs_events.specs.Turn.{was_refused}
use Rattle.zs_core.specs.Types.{Settings}
use Rattle.zs_core.specs.World.{World}
use Rattle.zs_posts.specs.declared.key.Key.{Key}
use Rattle.zs_posts.specs.Keys.{is_key}
use Rattle.zs_posts.specs.Calls.{CallSeen}
use Rattle.zs_posts.specs.Settled.{PostsSeen}
use Rattle.zs_posts.specs.declared.call.Call.{Call}
use Rattle.zs_turns.specs.declared.item.Item.{Item}
use Rattle.zs_turns.specs.Gates.{ends_at}
use Rattle.zs_session_cell.specs.declared.entry.Entry.{Entry}
use Rattle.zs_session_cell.specs.Core.{turn_at, closed_at, taken_at, StandsFor}
use Rattle.zs_exchange.specs.Exchange.{ExchangeSeen, Carries, Overdrawn}
use Rattle.zs_exchange.specs.Flags.{AreFlagged}

-- the events of a journal, the newest first, behind those that were before it
abbrev pub history : List Event → List Entry → List Event
history before [] = before
history before (entry ∷ journal) = history (entry.event ∷ before) journal

-- each turn of a journal is that of its event, behind the events before it
abbrev pub Follows : Settings → List Event → List Entry → Type 0
Follows s before [] = Unit {0}
Follows s before (entry ∷ journal) = (entry.turn ≡ turn_at s before entry.event) × Follows s (entry.event ∷ before) journal

-- whether entries name a key: their turns end what has it
abbrev pub names_end : Key → List Entry → Bool
names_end key journal = list_any (λ entry. list_any (λ k. is_key k key) (ends_at entry.event entry.turn)) journal

-- whether the entries of a journal do so from a place on
abbrev pub named_since : List Entry → Key → ℕ → Bool
named_since journal key place = names_end key (drop place journal)

-- each post was ended exactly where the journal named its key, from the entry on that opened it
abbrev pub FlagsOf : {H : Type 0} → List Entry → PostsSeen H → Type 0
FlagsOf journal posts = AreFlagged (named_since journal) (length journal) posts

-- a state stands for the events of a journal, whose turns are theirs, and the posts are marked as it says
pub record IsKept {H : Type 0} (w : World) (s : Settings) (journal : List Entry) (posts : PostsSeen H) : Type 0 where
  pub stands : StandsFor w s (history [] journal)
  pub follows : Follows s [] journal
  pub flags : FlagsOf journal posts

-- the settings, the journal, the oldest entry first, and what stands between the core and its callers
pub record SessionSeen (H : Type 0) : Type 0 where
  pub settings : Settings
  pub journal : List Entry
  pub exchange : ExchangeSeen H

-- a turn, the same turn for whoever tells of it later, the calls that are to be made of it, and the handler that is to go back
pub record HandingSeen (H : Type 0) : Type 0 where
  pub turn : Turn
  pub spare : Option Turn
  pub calls : List (Call H Item)
  pub back : Option H

module _ {H : Type 0} where
  -- a session with other posts
  abbrev pub session_with : PostsSeen H → SessionSeen H → SessionSeen H
  session_with posts session = record session { exchange = record session.exchange { posts = posts } }

  -- the turn of an event behind a session's journal
  abbrev pub turn_in : SessionSeen H → Event → Turn
  turn_in session e = turn_at session.settings (history [] session.journal) e

  -- whether a session was closed, and whether a cancellation token was taken, by its journal
  abbrev pub closed_in : SessionSeen H → Bool
  closed_in session = closed_at session.settings (history [] session.journal)

  abbrev pub taken_in : SessionSeen H → ℕ → Bool
  taken_in session token = taken_at token session.settings (history [] session.journal)

  -- an event was taken into the core and the journal of a session
  pub record Advances (e : Event) (handler : Option H) (old : SessionSeen H) (turn : Turn) (calls : List (CallSeen H Item)) (new : SessionSeen H) : Type 0 where
    pub turn_is : turn ≡ turn_in old e
    pub journal_is : new.journal ≡ old.journal ++ record { event = e; turn = turn } ∷ []
    pub carries : Carries e turn handler (length old.journal) old.exchange calls new.exchange
    pub settings_is : new.settings ≡ old.settings

  -- the handler that goes back: that of a refused event
  abbrev pub handler_back : Turn → Option H → Option H
  handler_back turn handler = if was_refused turn.answer then handler else None

  -- the calls of an event's turn need more passes of some gate than it has
  abbrev pub IsOverdrawn : Event → Option H → SessionSeen H → Type 0
  IsOverdrawn e handler old = Overdrawn e (turn_in old e) handler (length old.journal) old.exchange
