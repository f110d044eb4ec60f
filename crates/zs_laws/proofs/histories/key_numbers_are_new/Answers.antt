use Rattle.zs_model.specs.Past.{past_of}
use Rattle.zs_standing.specs.Stands.{world_after}
use Rattle.zs_laws.proofs.KeyNumbers.{answers_new}
use Rattle.zs_standing.proofs.Stands.{standing}
use Rattle.zs_laws.proofs.histories.key_numbers_are_new.Goals as goal

pub returns : goal.returns
returns c =
    λ s h n key unshut answer free. answers_new s (world_after s h) (past_of s h) n key (standing s h) unshut answer free
