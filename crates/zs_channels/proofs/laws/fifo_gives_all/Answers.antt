use Rattle.zs_channels.proofs.Giving.{gives_all}
use Rattle.zs_channels.proofs.laws.fifo_gives_all.Goals as goal

pub returns : goal.returns
returns g c = gives_all
