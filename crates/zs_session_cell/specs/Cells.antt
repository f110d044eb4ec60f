-- The cell of a session.
use Rattle.std.specs.Prelude.{◌≡◌, ℕ, true, List, Option}
use Rattle.zs_events.specs.declared.event.Event.{Event}
use Rattle.zs_events.specs.declared.turn.Turn.{Turn}
use Rattle.zs_events.specs.Turn.{was_refused}
use Rattle.zs_core.specs.World.{World}
use Rattle.zs_session_cell.specs.Core.{Previewed, Stepped}
use Rattle.zs_posts.specs.Calls.{CallSeen}
use Rattle.zs_posts.specs.Settled.{PostsSeen}
use Rattle.zs_turns.specs.declared.item.Item.{Item}
use Rattle.zs_exchange.specs.Exchange.{ExchangeSeen, Carries, Overdrawn}

-- the core's tables, and what stands between the core and its callers
pub record CellSeen (H : Type 0) : Type 0 where
  pub world : World
  pub exchange : ExchangeSeen H

module _ {H : Type 0} where
  -- a cell with other posts
  abbrev pub with_posts : PostsSeen H → CellSeen H → CellSeen H
  with_posts posts cell = record cell { exchange = record cell.exchange { posts = posts } }

  -- a cell took an event: the core took the event, unless it refused it, and its turn was carried out
  pub record Takes (e : Event) (handler : Option H) (place : ℕ) (old : CellSeen H) (turn : Turn) (calls : List (CallSeen H Item)) (new : CellSeen H) : Type 0 where
    pub steps : Stepped old.world new.world e turn
    pub refuses : was_refused turn.answer ≡ true → new.world ≡ old.world
    pub carries : Carries e turn handler place old.exchange calls new.exchange

  -- the calls of the event's turn need more passes of some gate than it has
  pub record IsFull (e : Event) (handler : Option H) (place : ℕ) (old : CellSeen H) : Type 0 where
    pub turn : Turn
    pub previews : Previewed old.world e turn
    pub overdrawn : Overdrawn e turn handler place old.exchange
