use Rattle.zs_effects.proofs.Answered.{tokens_gets_are_handed}
use Rattle.zs_effects.proofs.laws.tokens_gets_are_handed.Goals as goal

pub returns : goal.returns
returns c = tokens_gets_are_handed
