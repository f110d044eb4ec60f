use Rattle.zs_standing.proofs.Stands.{standing}
use Rattle.zs_standing.proofs.laws.counters_are_told.Goals as goal

pub returns : goal.returns
returns c = λ s h. ((standing s h).entity, (standing s h).key)
