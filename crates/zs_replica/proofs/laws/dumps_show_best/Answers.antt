use Rattle.zs_replica.proofs.Dumps.{dumps_show}
use Rattle.zs_replica.proofs.laws.dumps_show_best.Goals as goal

pub returns : goal.returns
returns c = dumps_show c.stores_hold_what_was_written.ensures
