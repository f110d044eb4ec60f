use Rattle.zs_laws.proofs.Endings.{ends_once}
use Rattle.zs_laws.proofs.histories.requests_end_once.Goals as goal

pub returns : goal.returns
returns c = ends_once
