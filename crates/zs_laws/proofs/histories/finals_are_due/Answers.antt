use Rattle.zs_laws.proofs.Finals.{finals_are}
use Rattle.zs_laws.proofs.histories.finals_are_due.Goals as goal

pub returns : goal.returns
returns c = finals_are
