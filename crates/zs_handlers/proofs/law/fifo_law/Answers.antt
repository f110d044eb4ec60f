use Rattle.zs_handlers.proofs.Runs.{received_items-append}
use Rattle.zs_handlers.proofs.law.fifo_law.Goals as goal

pub returns : goal.returns
returns g c = received_items-append
