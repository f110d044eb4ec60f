-- Which entities effects name.
use Rattle.std.specs.Prelude.{◌≡◌, ◌<◌, ℕ, ◌==◌, ◌++◌, true, false, List, ◌∷◌, Option, Some, None}
use Rattle.std.specs.List.{AllByRecursion}
use Rattle.std.specs.Option.{IfSome}
use Rattle.zs_events.specs.declared.event.Event.{Event}
use Rattle.zs_events.specs.declared.turn.Answer.TheVariants.{Ok as accepted}
use Rattle.zs_events.specs.declared.turn.Effect.{Effect}
use Rattle.zs_events.specs.declared.turn.Effect.TheVariants.{Send, Hand, End, Matching}
use Rattle.zs_events.specs.declared.turn.HandOver.{HandOver}
use Rattle.zs_events.specs.declared.turn.HandOver.TheVariants.{Sample, Reply, Query}
use Rattle.zs_events.specs.declared.turn.Kind.{Kind}
use Rattle.zs_events.specs.declared.turn.Kind.TheVariants.{Get}
use Rattle.zs_events.specs.Kinds.{row_of}
use Rattle.zs_model.specs.declared.settings.Settings.{Settings}
use Rattle.zs_model.specs.Counters.{draws_entity, next_entity}
use Rattle.zs_model.specs.Past.{past_of}
use Rattle.zs_model.specs.Effects.{effects}

-- the entity of a kind and number: a get has a number of its own sort
abbrev pub entity_numbered : Kind → ℕ → Option ℕ
entity_numbered Get number = None
entity_numbered kind id = Some id

-- that for which something is handed out
abbrev pub entity_handed : HandOver → Option ℕ
entity_handed (Sample kind id sample) = entity_numbered kind id
entity_handed (Reply kind number reply) = entity_numbered kind number
entity_handed (Query queryable value query) = Some queryable

-- and that which an effect is for: what is sent is for none
abbrev pub entity_named : Effect → Option ℕ
entity_named (Send message) = None
entity_named (Hand over) = entity_handed over
entity_named (End kind id) = entity_numbered kind id
entity_named (Matching id matching) = Some id

-- the entities that an event's effects name were declared before it or by it
abbrev pub EffectsNameDeclared : Type 0
EffectsNameDeclared =
    (s : Settings) (h : List Event) (e : Event)
    → AllByRecursion (λ x. IfSome (entity_named x) (λ id. id < next_entity s (past_of s (e ∷ h)))) (effects s h e).effects

-- so no effect of an event names the number that a later one is answered for an entity
abbrev pub EarlierEffectsNameNoNewEntity : Type 0
EarlierEffectsNameNoNewEntity =
    (s : Settings) (later h : List Event) (e d : Event) (n : ℕ)
    → draws_entity (row_of d).draws ≡ true → (effects s (later ++ e ∷ h) d).answer ≡ accepted (Some n)
    → AllByRecursion (λ x. IfSome (entity_named x) (λ id. (id == n) ≡ false)) (effects s h e).effects
