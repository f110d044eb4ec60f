use Rattle.zs_effects.proofs.Ascending.{effects_ascend}
use Rattle.zs_effects.proofs.laws.effects_ascend.Goals as goal

pub returns : goal.returns
returns c = effects_ascend
