use Rattle.zs_standing.proofs.Stands.{standing}
use Rattle.zs_standing.proofs.laws.keys_are_told.Goals as goal

pub returns : goal.returns
returns c = λ s h n. (standing s h).known.told n
