use Rattle.zs_script.proofs.PlainEffects.{turns-found}
use Rattle.zs_script.proofs.laws.turns_are_found.Goals as goal

pub returns : goal.returns
returns c = turns-found
