-- What the core promises, by the words under which it is cited.
use Rattle.std.proofs.Common.{◌≡◌, ℕ, Bool, true, List, [], ◌∷◌}
use Rattle.zs_events.specs.declared.event.Event.{Event}
use Rattle.zs_events.specs.declared.turn.Turn.{Turn}
use Rattle.zs_events.specs.Turn.{was_refused}
use Rattle.zs_core.specs.Types.{Settings}
use Rattle.zs_core.specs.Types.{Decision}
use Rattle.zs_core.specs.World.{World}
use Rattle.zs_core.specs.Changes.{with_change}
use Rattle.zs_core.specs.Stands.{world_after, ClosedIs, IsTaken}
use Rattle.zs_core.specs.Plans.{Plans}
use Rattle.zs_session_cell.specs.Core.{turn_at, closed_at, taken_at, StandsFor, Previewed, Stepped, WasClosed, WasTaken}

module _ {w : World} {e : Event} {d : Decision} (plans : Plans w e d) where
  pub plan_previews : Previewed w e d.turn
  unfolding Previewed
  plan_previews = plans.previews

  pub plan_steps : (new : World) → new ≡ with_change d.change w → Stepped w new e d.turn
  unfolding Stepped
  plan_steps new is = plans.steps new is

pub step_turn : (old new : World) (e : Event) (turn : Turn) (s : Settings) (h : List Event) → Stepped old new e turn → StandsFor old s h → turn ≡ turn_at s h e
unfolding Stepped StandsFor turn_at
step_turn old new e turn s h steps stands = (steps s h stands).0

pub step_stands : (old new : World) (e : Event) (turn : Turn) (s : Settings) (h : List Event) → Stepped old new e turn → StandsFor old s h → StandsFor new s (e ∷ h)
unfolding Stepped StandsFor
step_stands old new e turn s h steps stands = (steps s h stands).1

pub preview_turn : (w : World) (e : Event) (turn : Turn) (s : Settings) (h : List Event) → Previewed w e turn → StandsFor w s h → turn ≡ turn_at s h e
unfolding Previewed StandsFor turn_at
preview_turn w e turn s h previews stands = previews s h stands

pub new_stands : (w : World) (s : Settings) → w ≡ world_after s [] → StandsFor w s []
unfolding StandsFor
new_stands w s is = is

pub was_closed : (w : World) (answer : Bool) → ClosedIs w answer → WasClosed w answer
unfolding WasClosed
was_closed w answer told = told

pub closed_is : (w : World) (answer : Bool) (s : Settings) (h : List Event) → WasClosed w answer → StandsFor w s h → answer ≡ closed_at s h
unfolding WasClosed StandsFor closed_at
closed_is w answer s h told stands = told s h stands

pub was_taken : (w : World) (token : ℕ) (answer : Bool) → IsTaken w token answer → WasTaken w token answer
unfolding WasTaken
was_taken w token answer told = told

pub taken_is : (w : World) (token : ℕ) (answer : Bool) (s : Settings) (h : List Event) → WasTaken w token answer → StandsFor w s h → answer ≡ taken_at token s h
unfolding WasTaken StandsFor taken_at
taken_is w token answer s h told stands = told s h stands
