-- What two sides with their stores stand for.
use Rattle.std.specs.Prelude.{◌≡◌, ℕ, List}
use Rattle.std.specs.String.{string_bytes}
use Rattle.zs_events.specs.declared.event.Event.{Event}
use Rattle.zs_events.specs.declared.turn.Effect.{Effect}
use Rattle.zs_events.specs.declared.turn.Turn.{Turn}
use Rattle.zs_core.specs.Types.{Settings}
use Rattle.zs_delivery.specs.declared.side.LinkSide.{LinkSide}
use Rattle.zs_delivery.specs.declared.side.LinkSide.TheVariants.{A, B}
use Rattle.zs_delivery.specs.Linked.{LinkLine, Take, Deliver, linked_after}
use Rattle.zs_link.specs.declared.world.Delivered.{Delivered}
use Rattle.zs_link.specs.declared.world.Delivered.TheVariants.{Nothing, Dropped, Taken}
use Rattle.zs_link.specs.World.{StandAs, turn_for, delivery_from}
use Rattle.zs_store.specs.Store.{Write}
use Rattle.zs_keeping.specs.Keeping.{with_effects}
use Rattle.zs_replica.specs.Told.{Told, keeper, store_at, with_link}
use Rattle.zs_replica.specs.declared.sides.Sides.{Sides}

-- the sessions stand for what was taken and delivered, and each store is what that left
pub record AreBehind (x : Sides) (s : Settings) (links : List LinkLine) : Type 0 where
  pub world : StandAs x.world s (linked_after s links)
  pub a : x.a ≡ store_at s A links
  pub b : x.b ≡ store_at s B links

-- and that was printed of the line
pub record AreTold (x : Sides) (s : Settings) (t : Told) : Type 0 where
  pub behind : AreBehind x s t.links
  pub text : string_bytes x.printed ≡ t.text

-- what the store of a side is
abbrev pub store_in : LinkSide → Sides → List Write
store_in A x = x.a
store_in B x = x.b

-- the sides where the store of one took what effects hand to its subscriber
abbrev pub kept_in : LinkSide → List Effect → Sides → Sides
kept_in A effects x = record x { a = with_effects keeper effects x.a }
kept_in B effects x = record x { b = with_effects keeper effects x.b }

abbrev pub kept_delivered : LinkSide → Delivered → Sides → Sides
kept_delivered side Nothing x = x
kept_delivered side Dropped x = x
kept_delivered side (Taken turn) x = kept_in side turn.effects x

-- a side took an event: whatever they stood for, the turn is the event's, and nothing was printed
abbrev pub TakesEvent : LinkSide → Event → Sides → Turn → Sides → Type 0
TakesEvent side e old turn new =
    (s : Settings) (t : Told) → AreTold old s t
    → (turn ≡ turn_for s side (linked_after s t.links) e) × AreTold new s (with_link (Take side e) t)

-- the oldest message of a side was delivered
abbrev pub DeliversOldest : LinkSide → Sides → Delivered → Sides → Type 0
DeliversOldest from old delivered new =
    (s : Settings) (t : Told) → AreTold old s t
    → (delivered ≡ delivery_from s from (linked_after s t.links)) × AreTold new s (with_link (Deliver from) t)

-- whatever they stood for, they stand for what is made of it
abbrev pub Becomes : (Settings → Told → Told) → Sides → Sides → Type 0
Becomes f old new = (s : Settings) (t : Told) → AreTold old s t → AreTold new s (f s t)
