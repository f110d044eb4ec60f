-- Which gets an event ends.
use Rattle.std.specs.Prelude.{◌≡◌, ℕ, ◌<◌, false, not, ◌==◌, List, [], ◌∷◌, ◌++◌, map, filter, Option, Some, None}
use Rattle.std.specs.List.{list_any}
use Rattle.zs_events.specs.declared.event.Event.{Event}
use Rattle.zs_events.specs.declared.turn.Answer.{Answer}
use Rattle.zs_events.specs.declared.turn.Answer.TheVariants.{Ok as accepted}
use Rattle.zs_events.specs.declared.turn.Effect.{Effect}
use Rattle.zs_events.specs.declared.turn.Effect.TheVariants.{End}
use Rattle.zs_events.specs.declared.turn.Kind.TheVariants.{Get, LivelinessGet}
use Rattle.zs_events.specs.Kinds.{Draws, QueryNumber, row_of}
use Rattle.zs_model.specs.declared.settings.Settings.{Settings}
use Rattle.zs_model.specs.Counters.{next_query}
use Rattle.zs_model.specs.Gets.{open_now}
use Rattle.zs_model.specs.Past.{past_of}
use Rattle.zs_standing.specs.Stands.{lives}
use Rattle.zs_model.specs.Tokens.{asking_now}
use Rattle.zs_model.specs.Effects.{effects}

-- the get that an effect ends, if it ends one, and the get of tokens
abbrev pub get_ended : Effect → Option ℕ
get_ended (End Get number) = Some number
get_ended effect = None

abbrev pub tokens_ended : Effect → Option ℕ
tokens_ended (End LivelinessGet number) = Some number
tokens_ended effect = None

-- the numbers that a word finds in effects, the first first
abbrev pub with_number : Option ℕ → List ℕ → List ℕ
with_number None numbers = numbers
with_number (Some number) numbers = number ∷ numbers

abbrev pub picked : (Effect → Option ℕ) → List Effect → List ℕ
picked word [] = []
picked word (effect ∷ effects) = with_number (word effect) (picked word effects)

-- the get that an event begins: it is answered its number
abbrev pub begun : Draws → Answer → List ℕ
begun QueryNumber (accepted (Some number)) = number ∷ []
begun draws answer = []

-- an event tells the end of just those gets that were open before it, or that it asks, and that are not open behind it, each once and in
-- ascending order
abbrev pub EndsOfGets : Type 0
EndsOfGets =
    (s : Settings) (h : List Event) (e : Event)
    → picked get_ended (effects s h e).effects
    ≡ filter (λ number. not (lives s Get number (past_of s (e ∷ h))))
    (map (λ g. g.row.number) (open_now s (past_of s h)) ++ begun (row_of e).draws (effects s h e).answer)

-- so it is with the gets of tokens, of which none ends in the event that asks it
abbrev pub EndsOfTokensGets : Type 0
EndsOfTokensGets =
    (s : Settings) (h : List Event) (e : Event)
    → picked tokens_ended (effects s h e).effects
    ≡ filter (λ number. not (lives s LivelinessGet number (past_of s (e ∷ h)))) (map (λ g. g.number) (asking_now s (past_of s h)))

-- a get that was asked and is not open is never open again, and no event ends it
pub record IsOver (s : Settings) (h : List Event) (number : ℕ) : Type 0 where
  pub asked : number < next_query s (past_of s h)
  pub ended : lives s Get number (past_of s h) ≡ false

abbrev pub EndedGetsStayEnded : Type 0
EndedGetsStayEnded =
    (s : Settings) (h : List Event) (e : Event) (number : ℕ) → IsOver s h number
    → IsOver s (e ∷ h) number × (list_any (λ n. n == number) (picked get_ended (effects s h e).effects) ≡ false)
