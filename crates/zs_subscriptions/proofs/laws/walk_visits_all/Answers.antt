use Rattle.zs_subscriptions.proofs.Walking.{walk_visits_all}
use Rattle.zs_subscriptions.proofs.laws.walk_visits_all.Goals as goal

pub returns : goal.returns
returns c = walk_visits_all
