use Rattle.zs_query.proofs.Keeping.{kept_last}
use Rattle.zs_query.proofs.laws.kept_is_last_passing.Goals as goal

pub returns : goal.returns
returns c = kept_last
