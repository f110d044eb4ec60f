use Rattle.zs_subscriptions.proofs.Walking.{matches_ascend}
use Rattle.zs_subscriptions.proofs.laws.matches_ascend.Goals as goal

pub returns : goal.returns
returns c = matches_ascend
