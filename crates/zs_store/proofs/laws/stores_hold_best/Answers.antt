use Rattle.zs_store.proofs.Joins.{stores_hold_best}
use Rattle.zs_store.proofs.laws.stores_hold_best.Goals as goal

pub returns : goal.returns
returns c = stores_hold_best
