use Rattle.zs_query.proofs.Arrival.{free_of_order}
use Rattle.zs_query.proofs.laws.kept_is_free_of_order.Goals as goal

pub returns : goal.returns
returns c = free_of_order
