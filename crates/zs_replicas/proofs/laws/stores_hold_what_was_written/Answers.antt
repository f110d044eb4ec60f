use Rattle.zs_replicas.proofs.Filled.{both_store}
use Rattle.zs_replicas.proofs.laws.stores_hold_what_was_written.Goals as goal

pub returns : goal.returns
returns c = λ s keys. both_store keys c.stores_hold_best.ensures c.stores_join.ensures c.arrivals_are_in_order.ensures c.samples_follow_publications.ensures s
