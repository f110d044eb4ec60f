use Rattle.zs_laws.proofs.OneMessage.{one_message}
use Rattle.zs_laws.proofs.histories.one_message_at_most.Goals as goal

pub returns : goal.returns
returns c = one_message
