use Rattle.zs_standing.proofs.Stands.{standing}
use Rattle.zs_standing.proofs.laws.values_are_told.Goals as goal

pub returns : goal.returns
returns c = λ s h. (standing s h).handing
