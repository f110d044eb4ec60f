use Rattle.zs_script.proofs.PlainEffects.{effects-plain}
use Rattle.zs_script.proofs.laws.effects_are_plain.Goals as goal

pub returns : goal.returns
returns c = effects-plain
