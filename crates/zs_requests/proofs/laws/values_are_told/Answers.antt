use Rattle.zs_requests.proofs.Drawing.{told}
use Rattle.zs_requests.proofs.laws.values_are_told.Goals as goal

pub returns : goal.returns
returns c = told
