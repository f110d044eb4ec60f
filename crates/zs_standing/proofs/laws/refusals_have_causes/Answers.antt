use Rattle.zs_model.specs.Past.{past_of}
use Rattle.zs_standing.specs.Stands.{world_after}
use Rattle.zs_model.specs.Causes.{has_cause}
use Rattle.zs_world.specs.Decisions.{cause}
use Rattle.zs_standing.proofs.Causes.{names_first}
use Rattle.zs_standing.proofs.Stands.{standing, same_cause}
use Rattle.zs_standing.proofs.laws.refusals_have_causes.Goals as goal

pub returns : goal.returns
returns c =
    λ s h e. names_first (has_cause s (past_of s h) e) (cause (world_after s h) e) (same_cause s (world_after s h) (past_of s h) e (standing s h))
