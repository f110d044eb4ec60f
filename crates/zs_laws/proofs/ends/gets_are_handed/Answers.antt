use Rattle.zs_laws.proofs.GetsHanded.{gets_are_handed}
use Rattle.zs_laws.proofs.ends.gets_are_handed.Goals as goal

pub returns : goal.returns
returns c = gets_are_handed
