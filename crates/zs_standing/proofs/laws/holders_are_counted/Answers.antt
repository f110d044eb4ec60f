use Rattle.zs_model.specs.Past.{past_of}
use Rattle.zs_standing.specs.Stands.{world_after}
use Rattle.zs_standing.proofs.DeclaredKeys.{count_is}
use Rattle.zs_standing.proofs.Stands.{standing}
use Rattle.zs_standing.proofs.laws.holders_are_counted.Goals as goal

pub returns : goal.returns
returns c = λ s h n. count_is (world_after s h) (past_of s h) n (standing s h).known
