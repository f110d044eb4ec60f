use Rattle.zs_effects.proofs.Answered.{others_are_answered_nothing}
use Rattle.zs_effects.proofs.laws.others_are_answered_nothing.Goals as goal

pub returns : goal.returns
returns c = others_are_answered_nothing
