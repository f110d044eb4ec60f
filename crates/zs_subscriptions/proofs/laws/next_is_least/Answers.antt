use Rattle.zs_subscriptions.proofs.Walking.{next_is_least}
use Rattle.zs_subscriptions.proofs.laws.next_is_least.Goals as goal

pub returns : goal.returns
returns c = next_is_least
