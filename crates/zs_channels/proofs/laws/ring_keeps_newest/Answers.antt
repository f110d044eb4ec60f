use Rattle.zs_channels.proofs.Giving.{keeps_newest}
use Rattle.zs_channels.proofs.laws.ring_keeps_newest.Goals as goal

pub returns : goal.returns
returns g c = keeps_newest
