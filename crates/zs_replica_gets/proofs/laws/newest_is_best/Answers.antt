use Rattle.zs_replica_gets.proofs.Greatest.{newest_is_best}
use Rattle.zs_replica_gets.proofs.laws.newest_is_best.Goals as goal

pub returns : goal.returns
returns c = newest_is_best
