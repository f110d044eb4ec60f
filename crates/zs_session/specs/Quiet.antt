-- A session that holds no handler.
use Rattle.zs_exchange.specs.Handlers.{AreGates, AreBare}
use Rattle.zs_session_cell.specs.Cells.{CellSeen}

-- no post of a cell has a handler, under its key or among those that wait to be given out
pub record IsQuiet {H : Type 0} (cell : CellSeen H) : Type 0 where
  pub gates : AreGates cell.exchange.posts.rows
  pub bare : AreBare cell.exchange.posts.ready
