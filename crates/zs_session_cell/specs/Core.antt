-- Words for what the core promises. They are those of the core under names of their own, so that nothing that cites them looks into the
-- core's definitions.
use Rattle.std.specs.Prelude.{◌≡◌, ℕ, Bool, List}
use Rattle.zs_events.specs.declared.event.Event.{Event}
use Rattle.zs_events.specs.declared.turn.Turn.{Turn}
use Rattle.zs_core.specs.Types.{Settings}
use Rattle.zs_core.specs.World.{World}
use Rattle.zs_core.specs.Effects.{effects}
use Rattle.zs_core.specs.Entry.{is_closed}
use Rattle.zs_core.specs.Past.{past_of}
use Rattle.zs_core.specs.Cancelling.{is_taken}
use Rattle.zs_core.specs.Stands.{Stands, Previews, TakesStep, ClosedIs, IsTaken}

-- the turn of an event behind a history
unfoldable pub turn_at : Settings → List Event → Event → Turn
turn_at s h e = effects s h e

-- a state stands for settings and a history
unfoldable pub StandsFor : World → Settings → List Event → Type 0
StandsFor w s h = Stands w s h

-- a turn is that of an event behind whatever history the state stands for
unfoldable pub Previewed : World → Event → Turn → Type 0
Previewed w e turn = Previews w e turn

-- and the new state stands for that history with the event
unfoldable pub Stepped : World → World → Event → Turn → Type 0
Stepped old new e turn = TakesStep old new e turn

-- whether a session is closed behind a history
unfoldable pub closed_at : Settings → List Event → Bool
closed_at s h = is_closed (past_of s h)

-- whether a cancellation token was taken
unfoldable pub taken_at : ℕ → Settings → List Event → Bool
taken_at token s h = is_taken token (past_of s h)

-- the answers to both, behind whatever history the state stands for
unfoldable pub WasClosed : World → Bool → Type 0
WasClosed w answer = ClosedIs w answer

unfoldable pub WasTaken : World → ℕ → Bool → Type 0
WasTaken w token answer = IsTaken w token answer
