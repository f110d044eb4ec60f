-- Links keep the order, lose nothing and deliver nothing twice.
use Rattle.std.specs.Prelude.{◌≡◌, Bool, true, false, List, [], ◌∷◌, filter}
use Rattle.std.specs.List.{AllByRecursion}
use Rattle.zs_wire.specs.declared.message.Message.{Message}
use Rattle.zs_events.specs.declared.event.Event.{Event}
use Rattle.zs_events.specs.declared.event.Event.TheVariants.{Net}
use Rattle.zs_core.specs.Types.{Settings}
use Rattle.zs_core.specs.Received.{sent, sent_behind}
use Rattle.zs_laws.specs.Spelled.{IsSpelled}
use Rattle.zs_delivery.specs.Linked.{Side, LinkLine, Take, Deliver, other, is_event, linked_after}

-- whether an event is a message from the network
abbrev pub is_net : Event → Bool
is_net (Net message) = true
is_net e = false

-- what a side takes by itself comes from its application, never from the network
abbrev pub IsOwn : LinkLine → Type 0
IsOwn (Take side e) = is_net e ≡ false
IsOwn (Deliver from) = Unit {0}

abbrev pub AreOwn : List LinkLine → Type 0
AreOwn h = AllByRecursion IsOwn h

-- the keys of what a side takes by itself are spelled with characters, as all texts of a program are
abbrev pub IsSpelledLine : LinkLine → Type 0
IsSpelledLine (Take side e) = IsSpelled e
IsSpelledLine (Deliver from) = Unit {0}

abbrev pub AreSpelledLines : List LinkLine → Type 0
AreSpelledLines h = AllByRecursion IsSpelledLine h

-- the messages that came in from the network, the newest first
abbrev pub given : List Event → List Message
given [] = []
given (Net message ∷ h) = message ∷ given h
given (e ∷ h) = given h

-- one way of a link: all that a side sent is what was delivered, the newest first, and behind it what still waits; and what came in at
-- the other side is what was delivered, but for interests
pub record Way (s : Settings) (from : Side) (to : List Event) : Type 0 where
  pub delivered : List Message
  pub sent_is : sent s from.history ≡ sent_behind from.waiting delivered
  pub given_is : given to ≡ filter is_event delivered

-- both ways of a link
pub record Ways (s : Settings) (a b : Side) : Type 0 where
  pub forth : Way s a b.history
  pub back : Way (other s) b a.history

abbrev pub LinksAreInOrder : Type 0
LinksAreInOrder = (s : Settings) (h : List LinkLine) → AreOwn h → Ways s (linked_after s h).a (linked_after s h).b
