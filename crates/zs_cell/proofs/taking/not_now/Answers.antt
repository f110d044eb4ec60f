use Rattle.std.proofs.Common.{refl}
use Rattle.zs_cell.proofs.taking.not_now.Goals as goal

pub returns : goal.returns
returns g c = refl
