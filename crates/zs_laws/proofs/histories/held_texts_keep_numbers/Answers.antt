use Rattle.zs_model.specs.Past.{past_of}
use Rattle.zs_standing.specs.Stands.{world_after}
use Rattle.zs_laws.proofs.KeyNumbers.{kept_number}
use Rattle.zs_standing.proofs.Stands.{standing}
use Rattle.zs_laws.proofs.histories.held_texts_keep_numbers.Goals as goal

pub returns : goal.returns
returns c = λ s h n text key held names. kept_number s (world_after s h) (past_of s h) n text key (standing s h) held names
