-- What stands between a session's core and those who take what comes of its events: the gates with the handlers behind them, and the
-- messages that are to be sent.
use Rattle.std.specs.Prelude.{◌≡◌, ℕ, Bool, true, false, is_some, List, [], ◌∷◌, ◌++◌, length, Option, None}
use Rattle.std.specs.List.{flat_map}
use Rattle.zs_wire.specs.declared.message.Message.{Message}
use Rattle.zs_events.specs.declared.event.Event.{Event}
use Rattle.zs_events.specs.declared.turn.Effect.{Effect}
use Rattle.zs_events.specs.declared.turn.Effect.TheVariants.{Send, Hand, End, Matching}
use Rattle.zs_events.specs.declared.turn.Turn.{Turn}
use Rattle.zs_posts.specs.declared.key.Key.{Key}
use Rattle.zs_posts.specs.declared.key.Key.TheVariants.{Session}
use Rattle.zs_posts.specs.declared.key.Name.{Name}
use Rattle.zs_posts.specs.Settled.{PostsSeen}
use Rattle.zs_exchange.specs.Begun.{Begun, Begins, Overdraws, ended_all}
use Rattle.zs_posts.specs.Calls.{CallSeen}
use Rattle.zs_posts.specs.Turns.{IsOpened}
use Rattle.zs_turns.specs.declared.item.Item.{Item}
use Rattle.zs_turns.specs.Calls.{wanted_of}
use Rattle.zs_turns.specs.Gates.{opened_at, ends_at}

-- the message that an effect sends
abbrev pub sent_by : Effect → List Message
sent_by (Send message) = message ∷ []
sent_by (Hand item) = []
sent_by (End kind id) = []
sent_by (Matching id matching) = []

-- the messages that effects send, where messages are kept
abbrev pub kept_messages : Bool → List Effect → List Message
kept_messages true fx = flat_map sent_by fx
kept_messages false fx = []

-- the posts, the messages that were sent and not drained, the first that was sent first, the session's tag, and whether messages are kept
pub record ExchangeSeen (H : Type 0) : Type 0 where
  pub posts : PostsSeen H
  pub outbox : List Message
  pub tag : ℕ
  pub keeps : Bool

-- the name of a session's own gate
abbrev pub session_name : Name
session_name = record { key = Session; parent = None; token = None; place = 0 }

module _ {H : Type 0} where
  -- of a new session: its own gate alone, and no message
  pub record IsNew (tag : ℕ) (keeps : Bool) (x : ExchangeSeen H) : Type 0 where
    pub before : PostsSeen H
    pub no_rows : before.rows ≡ []
    pub none_waits : before.ready ≡ []
    pub opens : IsOpened session_name None before x.posts
    pub rest : x ≡ record { posts = x.posts; outbox = []; tag = tag; keeps = keeps }

  -- behind what an event with its turn asks for: the post that it opens, the passes of its calls, and its messages
  pub record Prepares (e : Event) (turn : Turn) (handler : Option H) (place : ℕ) (old : ExchangeSeen H) (name : Option Name) (calls : List (CallSeen H Item)) (before : ℕ) (ends : List Key) (new : ExchangeSeen H) : Type 0 where
    pub name_is : name ≡ opened_at (is_some handler) e place turn.answer
    pub begins : Begins name handler (wanted_of old.tag turn.effects) old.posts calls new.posts
    pub ends_are : ends ≡ ends_at e turn
    pub before_is : before ≡ length old.outbox
    pub rest : new ≡ record old { posts = new.posts; outbox = old.outbox ++ kept_messages old.keeps turn.effects }

  -- an event with its turn was carried out: then also the posts that it ends were ended
  pub record Carries (e : Event) (turn : Turn) (handler : Option H) (place : ℕ) (old : ExchangeSeen H) (calls : List (CallSeen H Item)) (new : ExchangeSeen H) : Type 0 where
    pub between : PostsSeen H
    pub begun : Begun (opened_at (is_some handler) e place turn.answer) handler (wanted_of old.tag turn.effects) old.posts calls between
    pub rest : new ≡ record old { posts = ended_all (ends_at e turn) between; outbox = old.outbox ++ kept_messages old.keeps turn.effects }

  -- the calls of a turn need more passes of some gate than it has
  abbrev pub Overdrawn : Event → Turn → Option H → ℕ → ExchangeSeen H → Type 0
  Overdrawn e turn handler place old =
      Overdraws (opened_at (is_some handler) e place turn.answer) handler (wanted_of old.tag turn.effects) old.posts
