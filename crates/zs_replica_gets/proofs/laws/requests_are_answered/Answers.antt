use Rattle.zs_replica_gets.proofs.Getting.{requests_are_answered}
use Rattle.zs_replica_gets.proofs.laws.requests_are_answered.Goals as goal

pub returns : goal.returns
returns c = requests_are_answered c.stores_hold_what_was_written.ensures c.gets_are_handed.ensures c.others_are_handed_nothing.ensures c.ends_of_gets.ensures
