-- The order of what an event brings about.
use Rattle.std.specs.Prelude.{ℕ, ◌≤◌, List, [], ◌∷◌}
use Rattle.std.specs.List.{AllByRecursion}
use Rattle.zs_events.specs.declared.event.Event.{Event}
use Rattle.zs_events.specs.declared.turn.Effect.{Effect}
use Rattle.zs_events.specs.declared.turn.Effect.TheVariants.{Send, Hand, End, Matching}
use Rattle.zs_events.specs.declared.turn.HandOver.{HandOver}
use Rattle.zs_events.specs.declared.turn.HandOver.TheVariants.{Reply}
use Rattle.zs_events.specs.declared.turn.Kind.{Kind}
use Rattle.zs_events.specs.declared.turn.Kind.TheVariants.{Queryable, Subscriber, LivelinessSubscriber, Get, LivelinessGet}
use Rattle.zs_model.specs.declared.settings.Settings.{Settings}
use Rattle.zs_model.specs.Effects.{effects}

-- ends stand by kind: queryables, subscribers, subscribers to liveliness, gets, gets of tokens, listeners
abbrev pub place_of_end : Kind → ℕ
place_of_end Queryable = 3
place_of_end Subscriber = 4
place_of_end LivelinessSubscriber = 5
place_of_end Get = 6
place_of_end LivelinessGet = 7
place_of_end kind = 8

-- what is handed to gets of tokens stands behind what all others are handed
abbrev pub place_of_hand : HandOver → ℕ
place_of_hand (Reply LivelinessGet number reply) = 2
place_of_hand over = 1

-- first stands what is sent, then what is handed out, then what ends, and last what listeners hear
abbrev pub place : Effect → ℕ
place (Send message) = 0
place (Hand over) = place_of_hand over
place (End kind id) = place_of_end kind
place (Matching id matching) = 9

-- none stands before one that belongs before it
abbrev pub AreInOrder : List Effect → Type 0
AreInOrder [] = Unit {0}
AreInOrder (x ∷ fx) = AllByRecursion (λ y. place x ≤ place y) fx × AreInOrder fx

abbrev pub EffectsAreInOrder : Type 0
EffectsAreInOrder = (s : Settings) (h : List Event) (e : Event) → AreInOrder (effects s h e).effects
