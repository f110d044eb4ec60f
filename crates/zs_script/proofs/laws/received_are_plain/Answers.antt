use Rattle.zs_script.proofs.PlainEffects.{received-plain}
use Rattle.zs_script.proofs.laws.received_are_plain.Goals as goal

pub returns : goal.returns
returns c = received-plain
