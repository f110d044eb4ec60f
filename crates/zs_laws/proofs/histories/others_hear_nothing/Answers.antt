use Rattle.zs_laws.proofs.Knowing.{others_hear_nothing}
use Rattle.zs_laws.proofs.histories.others_hear_nothing.Goals as goal

pub returns : goal.returns
returns c = others_hear_nothing
