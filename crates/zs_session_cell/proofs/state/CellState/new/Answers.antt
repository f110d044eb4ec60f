use Rattle.zs_session_cell.proofs.Core.{new_stands}
use Rattle.zs_session_cell.proofs.state.CellState.new.Goals as goal

pub returns-clause-core : goal.returns-clause-core
returns-clause-core g c = new_stands c.in_ok-core.core c.args.settings.now c.in_ok-core.ensures
