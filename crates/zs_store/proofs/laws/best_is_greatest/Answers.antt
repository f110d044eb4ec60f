use Rattle.zs_store.proofs.Best.{best_is_greatest}
use Rattle.zs_store.proofs.laws.best_is_greatest.Goals as goal

pub returns : goal.returns
returns c = best_is_greatest
