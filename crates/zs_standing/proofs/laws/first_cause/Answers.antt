use Rattle.zs_model.specs.Past.{past_of}
use Rattle.zs_standing.specs.Stands.{world_after}
use Rattle.zs_standing.proofs.Stands.{standing, same_cause}
use Rattle.zs_standing.proofs.laws.first_cause.Goals as goal

pub returns : goal.returns
returns c = λ s h e. same_cause s (world_after s h) (past_of s h) e (standing s h)
