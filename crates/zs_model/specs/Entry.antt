-- An accepted event as it stands in the past.
use Rattle.std.specs.Prelude.{ℕ, Bool, true, false, List, Option}
use Rattle.std.specs.List.{list_any}
use Rattle.zs_events.specs.declared.event.Event.{Event}
use Rattle.zs_events.specs.declared.event.Event.TheVariants.{Close}

-- the number that it answered, the text that its key stood for, and the event
pub record Entry : Type 0 where
  pub number : Option ℕ
  pub text : Option (List ℕ)
  pub event : Event

-- whether an event closes the session
abbrev pub is_close : Event → Bool
is_close Close = true
is_close e = false

-- the session was closed
abbrev pub is_closed : List Entry → Bool
is_closed past = list_any (λ x. is_close x.event) past
