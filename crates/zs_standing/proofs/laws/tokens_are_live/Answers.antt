use Rattle.zs_standing.proofs.Stands.{standing}
use Rattle.zs_standing.proofs.laws.tokens_are_live.Goals as goal

pub returns : goal.returns
returns c = λ s h. (standing s h).live.tokens.table
