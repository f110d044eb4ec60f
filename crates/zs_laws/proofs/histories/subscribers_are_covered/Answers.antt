use Rattle.zs_laws.proofs.Covered.{covered}
use Rattle.zs_laws.proofs.histories.subscribers_are_covered.Goals as goal

pub returns : goal.returns
returns c = covered
