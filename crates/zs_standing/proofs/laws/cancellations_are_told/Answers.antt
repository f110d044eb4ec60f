use Rattle.zs_standing.proofs.Stands.{standing}
use Rattle.zs_standing.proofs.laws.cancellations_are_told.Goals as goal

pub returns : goal.returns
returns c = λ s h. ((standing s h).cancelling.next, λ token. (standing s h).cancelling.taken token)
