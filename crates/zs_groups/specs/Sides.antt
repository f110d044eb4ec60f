-- What two sides with their memberships stand for.
use Rattle.std.specs.Prelude.{◌≡◌, ℕ, List}
use Rattle.std.specs.String.{string_bytes}
use Rattle.zs_events.specs.declared.event.Event.{Event}
use Rattle.zs_events.specs.declared.turn.Effect.{Effect}
use Rattle.zs_events.specs.declared.turn.Turn.{Turn}
use Rattle.zs_core.specs.Types.{Settings}
use Rattle.zs_delivery.specs.declared.side.LinkSide.{LinkSide}
use Rattle.zs_delivery.specs.declared.side.LinkSide.TheVariants.{A, B}
use Rattle.zs_delivery.specs.Linked.{LinkLine, Take, Deliver, linked_after}
use Rattle.zs_link.specs.declared.world.Delivered.{Delivered}
use Rattle.zs_link.specs.declared.world.Delivered.TheVariants.{Nothing, Dropped, Taken}
use Rattle.zs_link.specs.World.{StandAs, turn_for, delivery_from}
use Rattle.zs_group_lines.specs.declared.membership.Membership.{Membership}
use Rattle.zs_group_lines.specs.Membership.{hears, noted}
use Rattle.zs_groups.specs.Told.{Told, membership_at, with_link}
use Rattle.zs_groups.specs.declared.sides.Sides.{Sides}

-- the sessions stand for what was taken and delivered, and each membership is what that left
pub record AreBehind (x : Sides) (s : Settings) (links : List LinkLine) : Type 0 where
  pub world : StandAs x.world s (linked_after s links)
  pub a : x.a ≡ membership_at s A links
  pub b : x.b ≡ membership_at s B links

-- and that was printed of the line
pub record AreTold (x : Sides) (s : Settings) (t : Told) : Type 0 where
  pub behind : AreBehind x s t.links
  pub text : string_bytes x.printed ≡ t.text

-- what the membership of a side is
abbrev pub member_in : LinkSide → Sides → Membership
member_in A x = x.a
member_in B x = x.b

-- the sides where the membership of one noted an event
abbrev pub noted_in : LinkSide → Event → Turn → Sides → Sides
noted_in A e turn x = record x { a = noted e turn x.a }
noted_in B e turn x = record x { b = noted e turn x.b }

-- where it heard what effects hand to its subscriber
abbrev pub heard_in : LinkSide → List Effect → Sides → Sides
heard_in A effects x = record x { a = hears effects x.a }
heard_in B effects x = record x { b = hears effects x.b }

abbrev pub heard_delivered : LinkSide → Delivered → Sides → Sides
heard_delivered side Nothing x = x
heard_delivered side Dropped x = x
heard_delivered side (Taken turn) x = heard_in side turn.effects x

-- a side took an event: whatever they stood for, the turn is the event's, and nothing was printed
abbrev pub TakesEvent : LinkSide → Event → Sides → Turn → Sides → Type 0
TakesEvent side e old turn new =
    (s : Settings) (t : Told) → AreTold old s t
    → (turn ≡ turn_for s side (linked_after s t.links) e) × AreTold new s (with_link (Take side e) t)

-- the oldest message of a side was delivered
abbrev pub DeliversOldest : LinkSide → Sides → Delivered → Sides → Type 0
DeliversOldest from old delivered new =
    (s : Settings) (t : Told) → AreTold old s t
    → (delivered ≡ delivery_from s from (linked_after s t.links)) × AreTold new s (with_link (Deliver from) t)

-- whatever they stood for, they stand for what is made of it
abbrev pub Becomes : (Settings → Told → Told) → Sides → Sides → Type 0
Becomes f old new = (s : Settings) (t : Told) → AreTold old s t → AreTold new s (f s t)
