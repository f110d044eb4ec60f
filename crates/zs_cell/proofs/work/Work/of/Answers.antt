use Rattle.std.proofs.Common.{refl}
use Rattle.zs_cell.proofs.work.Work.of.Goals as goal

pub returns : goal.returns
returns g c = refl
