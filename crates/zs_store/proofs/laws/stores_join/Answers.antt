use Rattle.zs_store.proofs.Joins.{stores_join}
use Rattle.zs_store.proofs.laws.stores_join.Goals as goal

pub returns : goal.returns
returns c = stores_join
