use Rattle.zs_laws.proofs.Knowing.{listeners_hear}
use Rattle.zs_laws.proofs.histories.listeners_hear_changes.Goals as goal

pub returns : goal.returns
returns c = listeners_hear
