use Rattle.zs_laws.proofs.Ordered.{effects_are_in_order}
use Rattle.zs_laws.proofs.order.effects_are_in_order.Goals as goal

pub returns : goal.returns
returns c = effects_are_in_order
