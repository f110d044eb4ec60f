use Rattle.zs_subscriptions.proofs.Walking.{each_is_next}
use Rattle.zs_subscriptions.proofs.laws.each_is_next.Goals as goal

pub returns : goal.returns
returns c = each_is_next
