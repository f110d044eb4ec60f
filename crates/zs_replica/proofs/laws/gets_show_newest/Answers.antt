use Rattle.zs_replica.proofs.Stepping.{gets_show}
use Rattle.zs_replica.proofs.laws.gets_show_newest.Goals as goal

pub returns : goal.returns
returns c = gets_show c.gets_hand_the_newest.ensures c.requests_are_answered.ensures
