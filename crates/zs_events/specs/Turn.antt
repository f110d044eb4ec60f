use Rattle.std.specs.Prelude.{ℕ, Bool, true, false, List, [], Option, Some, None}
use Rattle.zs_events.specs.declared.turn.Answer.{Answer}
use Rattle.zs_events.specs.declared.turn.Answer.TheVariants.{Ok as accepted, Refused}
use Rattle.zs_events.specs.declared.turn.Effect.{Effect}
use Rattle.zs_events.specs.declared.turn.Refusal.{Refusal}
use Rattle.zs_events.specs.declared.turn.Turn.{Turn}

-- whether an answer is a refusal
abbrev pub was_refused : Answer → Bool
was_refused (accepted number) = false
was_refused (Refused refusal) = true

-- the turn of an event: refused, with nothing else, or accepted with its number and effects
abbrev pub answered : Option Refusal → Option ℕ → List Effect → Turn
answered (Some refusal) number effects = record { answer = Refused refusal; effects = [] }
answered None number effects = record { answer = accepted number; effects = effects }
