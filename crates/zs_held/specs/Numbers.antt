-- Which answers have a number.
use Rattle.std.specs.Prelude.{◌≡◌, ℕ, Bool, List, Option, is_some}
use Rattle.zs_events.specs.declared.event.Event.{Event}
use Rattle.zs_events.specs.declared.turn.Answer.TheVariants.{Ok as accepted}
use Rattle.zs_events.specs.Kinds.{is_numbered, row_of}
use Rattle.zs_core.specs.Types.{Settings}
use Rattle.zs_session_cell.specs.Core.{turn_at}

-- whether an event is answered a number where it is accepted: it draws one, or asks for a status
unfoldable pub numbered_at : Event → Bool
numbered_at e = is_numbered (row_of e).draws

-- an accepted event is answered a number exactly where that is so
abbrev pub NumbersAreTold : Type 0
NumbersAreTold =
    (s : Settings) (h : List Event) (e : Event) (number : Option ℕ) → (turn_at s h e).answer ≡ accepted number → is_some number ≡ numbered_at e
