use Rattle.zs_laws.proofs.HandedNothing.{others_are_handed_nothing}
use Rattle.zs_laws.proofs.ends.others_are_handed_nothing.Goals as goal

pub returns : goal.returns
returns c = others_are_handed_nothing
