use Rattle.zs_laws.proofs.Knowing.{listeners_know}
use Rattle.zs_laws.proofs.histories.listeners_know.Goals as goal

pub returns : goal.returns
returns c = listeners_know
