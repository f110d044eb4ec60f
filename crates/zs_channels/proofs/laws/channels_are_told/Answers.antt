use Rattle.zs_channels.proofs.Telling.{told}
use Rattle.zs_channels.proofs.laws.channels_are_told.Goals as goal

pub returns : goal.returns
returns g c = told
