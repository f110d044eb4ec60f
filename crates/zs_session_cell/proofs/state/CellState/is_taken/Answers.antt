use Rattle.std.proofs.Common.{subst}
use Rattle.zs_session_cell.specs.Core.{WasTaken}
use Rattle.zs_session_cell.specs.Cells.{CellSeen}
use Rattle.zs_session_cell.proofs.Core.{was_taken}
use Rattle.zs_session_cell.proofs.state.CellState.is_taken.Goals as goal

pub returns : goal.returns
returns g c =
    subst (λ (s : CellSeen g.row.H.Denot). WasTaken s.world c.args.token c.is_taken.result) c.self.view_is (was_taken c.self.inside.core c.args.token c.is_taken.result c.is_taken.ensures)
