use Rattle.zs_laws.proofs.Received.{keys_read}
use Rattle.zs_laws.proofs.histories.wire_forms_are_read.Goals as goal

pub returns : goal.returns
returns c = keys_read
