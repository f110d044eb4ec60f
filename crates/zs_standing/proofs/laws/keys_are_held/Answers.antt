use Rattle.zs_model.specs.Past.{past_of}
use Rattle.zs_standing.specs.Stands.{world_after}
use Rattle.zs_standing.proofs.DeclaredKeys.{held_text_is}
use Rattle.zs_standing.proofs.Stands.{standing}
use Rattle.zs_standing.proofs.laws.keys_are_held.Goals as goal

pub returns : goal.returns
returns c = λ s h n. held_text_is (world_after s h) (past_of s h) n (standing s h).known
