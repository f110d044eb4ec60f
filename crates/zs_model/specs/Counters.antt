-- The next number of each sort, told by the events alone: its first one, and one more for each that was drawn.
use Rattle.std.specs.Prelude.{ℕ, ◌+◌, ◌-◌, Bool, true, false, not, nat_lt, ◌&&◌, is_some, unwrap_or, List, [], ◌∷◌, Option, Some, None, if◌then◌else◌}
use Rattle.zs_model.specs.declared.settings.Settings.{Settings}
use Rattle.zs_model.specs.Settings.{last_entity, last_query, last_key}
use Rattle.zs_events.specs.Kinds.{Draws, NoNumber, EntityNumber, QueryNumber, ValueNumber, CancellationNumber, KeyNumber, StatusOf, row_of}
use Rattle.zs_model.specs.Entry.{Entry}
use Rattle.zs_model.specs.HeldKeys.{held_number}
use Rattle.zs_model.specs.Values.{handing_of, last_value}
use Rattle.zs_model.specs.Matching.{status_of}
use Rattle.zs_model.specs.Cancelling.{last_cancellation_token, next_cancellation_token}

-- a counter that has no number left to draw, where this is the number behind the last
abbrev pub is_spent : ℕ → ℕ → Bool
is_spent last next = nat_lt (last - next) 1

-- whether an entity number is drawn
abbrev pub draws_entity : Draws → Bool
draws_entity EntityNumber = true
draws_entity draws = false

-- whether a query number is drawn
abbrev pub draws_query : Draws → Bool
draws_query QueryNumber = true
draws_query draws = false

-- whether a key number is drawn: for a text that is not held
abbrev pub draws_key : List Entry → Draws → Option (List ℕ) → Bool
draws_key past KeyNumber (Some text) = not (is_some (held_number text past))
draws_key past draws text = false

-- the next entity number: the first one stands behind the session's own
abbrev pub next_entity : Settings → List Entry → ℕ
next_entity s [] = s.entity_start + 1
next_entity s (x ∷ past) = if draws_entity (row_of x.event).draws then next_entity s past + 1 else next_entity s past

-- the next query number
abbrev pub next_query : Settings → List Entry → ℕ
next_query s [] = s.query_start
next_query s (x ∷ past) = if draws_query (row_of x.event).draws then next_query s past + 1 else next_query s past

-- the next query value: as many were drawn before it
abbrev pub next_value : List Entry → ℕ
next_value past = (handing_of past).next

-- the next key number
abbrev pub next_key : Settings → List Entry → ℕ
next_key s [] = s.key_start
next_key s (x ∷ past) = if draws_key past (row_of x.event).draws x.text then next_key s past + 1 else next_key s past

-- whether a number would be drawn from a counter that has none left
abbrev pub lacks_number : Settings → List Entry → Draws → Option (List ℕ) → Bool
lacks_number s past NoNumber text = false
lacks_number s past EntityNumber text = is_spent last_entity (next_entity s past)
lacks_number s past QueryNumber text = is_spent last_query (next_query s past)
lacks_number s past ValueNumber text = is_spent last_value (next_value past)
lacks_number s past CancellationNumber text = is_spent last_cancellation_token (next_cancellation_token past)
lacks_number s past (StatusOf kind id) text = false
lacks_number s past KeyNumber None = false
lacks_number s past KeyNumber (Some text) = not (is_some (held_number text past)) && is_spent last_key (next_key s past)

-- the number that is answered: the next entity, query, value or token number, or that of a held text, or else the next key number; or 1 or
-- 0, as anyone matches or nobody does
abbrev pub drawn_number : Settings → List Entry → Draws → Option (List ℕ) → Option ℕ
drawn_number s past NoNumber text = None
drawn_number s past EntityNumber text = Some (next_entity s past)
drawn_number s past QueryNumber text = Some (next_query s past)
drawn_number s past ValueNumber text = Some (next_value past)
drawn_number s past CancellationNumber text = Some (next_cancellation_token past)
drawn_number s past (StatusOf kind id) text = Some (status_of past kind id)
drawn_number s past KeyNumber None = None
drawn_number s past KeyNumber (Some text) = Some (unwrap_or (held_number text past) (next_key s past))
