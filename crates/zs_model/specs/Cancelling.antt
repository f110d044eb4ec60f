-- Cancellation tokens, told by the events alone: which were drawn, and which were taken.
use Rattle.std.specs.Prelude.{ℕ, ◌+◌, Bool, true, false, nat_lt, ◌==◌, List, [], ◌∷◌, Option, Some, None, if◌then◌else◌}
use Rattle.std.specs.List.{list_any}
use Rattle.zs_events.specs.Kinds.{Draws, CancellationNumber, ToGets, Cancels, row_of}
use Rattle.zs_model.specs.Entry.{Entry}

-- the cancellation tokens of a session: the number that the next one draws, and the numbers of those that were taken, ascending
pub record Cancelling : Type 0 where
  pub next : ℕ
  pub taken : List ℕ

-- the last number of cancellation tokens, which none has
abbrev pub last_cancellation_token : ℕ
last_cancellation_token = 4294967295

-- whether a cancellation token is drawn
abbrev pub draws_cancellation_token : Draws → Bool
draws_cancellation_token CancellationNumber = true
draws_cancellation_token draws = false

-- the next cancellation token: as many were drawn before it
abbrev pub next_cancellation_token : List Entry → ℕ
next_cancellation_token [] = 0
next_cancellation_token (x ∷ past) = if draws_cancellation_token (row_of x.event).draws then next_cancellation_token past + 1 else next_cancellation_token past

-- whether an event cancels a cancellation token
abbrev pub cancels : ℕ → ToGets → Bool
cancels cancellation_token (Cancels other) = cancellation_token == other
cancels cancellation_token to = false

-- whether a cancellation token was taken: an event cancelled it
abbrev pub is_taken : ℕ → List Entry → Bool
is_taken cancellation_token past = list_any (λ x. cancels cancellation_token (row_of x.event).to_gets) past

-- whether the cancellation token that an event names was drawn, if it names one, where this is the next one
abbrev pub is_drawn : ℕ → Option ℕ → Bool
is_drawn next None = true
is_drawn next (Some cancellation_token) = nat_lt cancellation_token next

-- whether the cancellation token with which an event asks passes a test, if it asks with one
abbrev pub is_any : (ℕ → Bool) → Option ℕ → Bool
is_any test None = false
is_any test (Some cancellation_token) = test cancellation_token

-- whether a number is among those that were taken
abbrev pub is_among : List ℕ → ℕ → Bool
is_among taken cancellation_token = list_any (λ other. other == cancellation_token) taken
