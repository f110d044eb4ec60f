use Rattle.std.proofs.Common.{subst}
use Rattle.zs_session_cell.specs.Core.{WasClosed}
use Rattle.zs_session_cell.specs.Cells.{CellSeen}
use Rattle.zs_session_cell.proofs.Core.{was_closed}
use Rattle.zs_session_cell.proofs.state.CellState.is_closed.Goals as goal

pub returns : goal.returns
returns g c =
    subst (λ (s : CellSeen g.row.H.Denot). WasClosed s.world c.is_closed.result) c.self.view_is (was_closed c.self.inside.core c.is_closed.result c.is_closed.ensures.told)
