use Rattle.zs_exchange.proofs.Undoing.{taken_back}
use Rattle.zs_exchange.proofs.beginning.undo.Goals as goal

pub returns : goal.returns
returns g c = λ handler wanted first b. taken_back b _ _ c.unlend_turn.ensures c.close.ensures
