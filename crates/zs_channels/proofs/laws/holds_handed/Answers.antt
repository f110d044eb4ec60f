use Rattle.zs_channels.proofs.Giving.{holds}
use Rattle.zs_channels.proofs.laws.holds_handed.Goals as goal

pub returns : goal.returns
returns g c = holds
