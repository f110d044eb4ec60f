use Rattle.zs_laws.proofs.EndsOfGets.{ended_gets_stay_ended}
use Rattle.zs_laws.proofs.ends.ended_gets_stay_ended.Goals as goal

pub returns : goal.returns
returns c = ended_gets_stay_ended
