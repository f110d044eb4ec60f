use Rattle.zs_standing.proofs.Stands.{standing}
use Rattle.zs_standing.proofs.laws.queryables_are_live.Goals as goal

pub returns : goal.returns
returns c = λ s h. (standing s h).live.queryables.table
