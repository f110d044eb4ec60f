use Rattle.zs_replica_gets.proofs.Getting.{gets_hand_the_newest}
use Rattle.zs_replica_gets.proofs.laws.gets_hand_the_newest.Goals as goal

pub returns : goal.returns
returns c = gets_hand_the_newest c.stores_hold_what_was_written.ensures c.gets_are_handed.ensures c.others_are_handed_nothing.ensures c.ends_of_gets.ensures
