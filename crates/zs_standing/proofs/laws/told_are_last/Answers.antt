use Rattle.zs_standing.proofs.Stands.{standing}
use Rattle.zs_standing.proofs.laws.told_are_last.Goals as goal

pub returns : goal.returns
returns c = λ s h. (λ test. (standing s h).matched.subs test, λ test. (standing s h).matched.queryables test)
