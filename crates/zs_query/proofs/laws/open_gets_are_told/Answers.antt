use Rattle.zs_query.proofs.Hearing.{told}
use Rattle.zs_query.proofs.laws.open_gets_are_told.Goals as goal

pub returns : goal.returns
returns c = told
