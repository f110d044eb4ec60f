use Rattle.zs_group_laws.proofs.Starting.{default_starts, other_starts}
use Rattle.zs_group_laws.proofs.laws.default_sessions_start.Goals as goal

pub returns : goal.returns
returns c = record { first = default_starts; second = other_starts }
