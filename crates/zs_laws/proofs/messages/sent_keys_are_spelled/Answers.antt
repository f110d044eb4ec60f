use Rattle.zs_laws.proofs.Forms.{sent_keys_are_spelled}
use Rattle.zs_laws.proofs.messages.sent_keys_are_spelled.Goals as goal

pub returns : goal.returns
returns c = sent_keys_are_spelled
