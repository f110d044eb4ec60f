use Rattle.zs_standing.proofs.Watching.{asking_more}
use Rattle.zs_standing.proofs.laws.askings_go_on.Goals as goal

pub returns : goal.returns
returns c = λ s x past. asking_more s x past
