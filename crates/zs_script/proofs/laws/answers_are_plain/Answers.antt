use Rattle.zs_script.proofs.PlainEffects.{answers-plain}
use Rattle.zs_script.proofs.laws.answers_are_plain.Goals as goal

pub returns : goal.returns
returns c = answers-plain
