use Rattle.zs_cell.proofs.Unnumbered.{no-number}
use Rattle.zs_cell.proofs.session.Session.recv.Goals as goal

pub tell-requires : goal.tell-requires
tell-requires g c = no-number _
