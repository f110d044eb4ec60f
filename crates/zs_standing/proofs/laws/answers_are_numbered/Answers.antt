use Rattle.zs_standing.proofs.Numbered.{answers_numbered}
use Rattle.zs_standing.proofs.laws.answers_are_numbered.Goals as goal

pub returns : goal.returns
returns c = answers_numbered
