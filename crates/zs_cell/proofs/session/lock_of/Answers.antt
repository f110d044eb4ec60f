use Rattle.std.proofs.Common.{sym}
use Rattle.zs_cell.proofs.session.lock_of.Goals as goal

pub new-lock-requires : goal.new-lock-requires
new-lock-requires g c = sym c.in-Ok.ensures
