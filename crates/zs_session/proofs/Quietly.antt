-- The words of a cell for its core are the core's own.
use Rattle.std.proofs.Common.{[], Bool}
use Rattle.zs_events.specs.declared.event.Event.{Event}
use Rattle.zs_events.specs.declared.turn.Turn.{Turn}
use Rattle.zs_core.specs.Types.{Settings}
use Rattle.zs_core.specs.World.{World}
use Rattle.zs_core.specs.Stands.{Stands, TakesStep, ClosedIs}
use Rattle.zs_session_cell.specs.Core.{StandsFor, Stepped, WasClosed}

pub stands_new : (w : World) (s : Settings) → StandsFor w s [] → Stands w s []
unfolding StandsFor
stands_new w s stands = stands

pub steps_so : (old new : World) (e : Event) (turn : Turn) → Stepped old new e turn → TakesStep old new e turn
unfolding Stepped
steps_so old new e turn steps = steps

pub closed_so : (w : World) (answer : Bool) → WasClosed w answer → ClosedIs w answer
unfolding WasClosed
closed_so w answer is = is
