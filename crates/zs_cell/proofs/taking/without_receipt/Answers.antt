use Rattle.std.proofs.Common.{ap}
use Rattle.zs_cell.specs.Works.{WorkSeen}
use Rattle.zs_cell.proofs.taking.without_receipt.Goals as goal

pub returns-clause-lents : goal.returns-clause-lents
returns-clause-lents g c = ap (λ (w : WorkSeen _). w.lents) c.of.ensures

pub returns-clause-waits : goal.returns-clause-waits
returns-clause-waits g c = ap (λ (w : WorkSeen _). w.waits) c.of.ensures
