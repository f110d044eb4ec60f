use Rattle.zs_store.proofs.Joins.{same_writes}
use Rattle.zs_store.proofs.laws.same_writes_same_store.Goals as goal

pub returns : goal.returns
returns c = same_writes
