use Rattle.zs_delivery.proofs.Order.{ways_after}
use Rattle.zs_delivery.proofs.laws.links_are_in_order.Goals as goal

pub returns : goal.returns
returns c = ways_after
