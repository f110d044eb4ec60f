use Rattle.zs_requests.proofs.Drawing.{ended_stay}
use Rattle.zs_requests.proofs.laws.ended_requests_stay.Goals as goal

pub returns : goal.returns
returns c = ended_stay
