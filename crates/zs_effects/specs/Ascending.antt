-- Effects of one place stand by the numbers of those that they are for.
use Rattle.std.specs.Prelude.{◌≡◌, ◌≤◌, ℕ, ◌+◌, List, [], ◌∷◌}
use Rattle.std.specs.List.{AllByRecursion}
use Rattle.zs_events.specs.declared.event.Event.{Event}
use Rattle.zs_events.specs.declared.turn.Effect.{Effect}
use Rattle.zs_events.specs.declared.turn.Effect.TheVariants.{Send, Hand, End, Matching}
use Rattle.zs_events.specs.declared.turn.HandOver.{HandOver}
use Rattle.zs_events.specs.declared.turn.HandOver.TheVariants.{Sample, Reply, Query}
use Rattle.zs_events.specs.declared.turn.Kind.TheVariants.{Subscriber}
use Rattle.zs_model.specs.declared.settings.Settings.{Settings}
use Rattle.zs_model.specs.Effects.{effects}
use Rattle.zs_laws.specs.Order.{place}

-- the number of what something is handed to, and of what an effect is for: what is sent is for none
abbrev pub handed_number : HandOver → ℕ
handed_number (Sample kind id sample) = id
handed_number (Reply kind number reply) = number
handed_number (Query queryable value query) = queryable

abbrev pub whom : Effect → ℕ
whom (Send message) = 0
whom (Hand over) = handed_number over
whom (End kind id) = id
whom (Matching id matching) = id

-- the least number that the next one handed over may be for: a subscriber is handed one sample, a queryable one query
abbrev pub next_handed : HandOver → ℕ
next_handed (Sample Subscriber id sample) = id + 1
next_handed (Sample kind id sample) = id
next_handed (Reply kind number reply) = number
next_handed (Query queryable value query) = queryable + 1

-- and the next effect of the same place: what ends ends once, and who hears of matching hears once
abbrev pub next_whom : Effect → ℕ
next_whom (Send message) = 0
next_whom (Hand over) = next_handed over
next_whom (End kind id) = id + 1
next_whom (Matching id matching) = id + 1

-- those behind an effect that have its place are for such numbers
abbrev pub AreAscending : List Effect → Type 0
AreAscending [] = Unit {0}
AreAscending (x ∷ fx) = AllByRecursion (λ y. place x ≡ place y → next_whom x ≤ whom y) fx × AreAscending fx

abbrev pub EffectsAscend : Type 0
EffectsAscend = (s : Settings) (h : List Event) (e : Event) → AreAscending (effects s h e).effects
