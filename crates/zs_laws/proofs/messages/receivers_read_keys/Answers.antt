use Rattle.zs_laws.proofs.Receiving.{receivers_read_keys}
use Rattle.zs_laws.proofs.messages.receivers_read_keys.Goals as goal

pub returns : goal.returns
returns c = receivers_read_keys
