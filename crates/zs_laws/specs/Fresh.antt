-- Numbers are drawn once.
use Rattle.std.specs.Prelude.{◌≡◌, ℕ, Bool, true, false, ◌==◌, ◌&&◌, List, Option, Some, None}
use Rattle.std.specs.List.{AllByRecursion, list_any}
use Rattle.zs_query.specs.Types.{QueryValue}
use Rattle.zs_query.specs.Ascending.{Ascend}
use Rattle.zs_query.specs.Drawn.{drawn}
use Rattle.zs_events.specs.declared.event.Event.{Event}
use Rattle.zs_events.specs.declared.turn.Answer.TheVariants.{Ok as accepted}
use Rattle.zs_events.specs.Kinds.{Draws, row_of}
use Rattle.zs_model.specs.declared.settings.Settings.{Settings}
use Rattle.zs_model.specs.Entry.{Entry}
use Rattle.zs_model.specs.HeldKeys.{named_text}
use Rattle.zs_model.specs.Live.{live_queryables, to_gets_of}
use Rattle.zs_model.specs.Counters.{draws_entity, draws_query}
use Rattle.zs_model.specs.Cancelling.{draws_cancellation_token}
use Rattle.zs_model.specs.Values.{drawn_by, value_news, handing_of}
use Rattle.zs_model.specs.Past.{past_of, entry_of}
use Rattle.zs_model.specs.Effects.{effects}

-- whether an answer has that number
abbrev pub is_number : ℕ → Option ℕ → Bool
is_number n None = false
is_number n (Some number) = number == n

-- whether an accepted event that draws a number of this sort was answered that one
abbrev pub was_drawn : (Draws → Bool) → ℕ → List Entry → Bool
was_drawn sort n past = list_any (λ x. sort (row_of x.event).draws && is_number n x.number) past

-- an accepted event that draws a number of this sort is answered one that none was answered before it
abbrev pub AreFresh : (Draws → Bool) → Type 0
AreFresh sort =
    (s : Settings) (h : List Event) (e : Event) (n : ℕ) → sort (row_of e).draws ≡ true → (effects s h e).answer ≡ accepted (Some n)
    → was_drawn sort n (past_of s h) ≡ false

-- so it is with the numbers of entities, of queries and of cancellation tokens
abbrev pub EntityNumbersAreFresh : Type 0
EntityNumbersAreFresh = AreFresh draws_entity

abbrev pub QueryNumbersAreFresh : Type 0
QueryNumbersAreFresh = AreFresh draws_query

abbrev pub CancellationTokensAreFresh : Type 0
CancellationTokensAreFresh = AreFresh draws_cancellation_token

-- the query values that an accepted event draws
abbrev pub values_by : Settings → List Entry → Event → List QueryValue
values_by s past e = drawn_by (live_queryables past) (handing_of past) (to_gets_of past e) (row_of e).to_values (entry_of s past e).number (named_text past e)

-- whether a query value of that number was ever drawn
abbrev pub was_value : ℕ → List Entry → Bool
was_value n past = list_any (λ d. d.value.value == n) (drawn (value_news past))

-- those that an event draws are none of those that were drawn before, and ascend
abbrev pub QueryValuesAreFresh : Type 0
QueryValuesAreFresh =
    (s : Settings) (h : List Event) (e : Event)
    → AllByRecursion (λ v. was_value v.value (past_of s h) ≡ false) (values_by s (past_of s h) e) × Ascend (λ v. v.value) (values_by s (past_of s h) e)
