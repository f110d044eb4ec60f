use Rattle.zs_recordings.proofs.Again.{fronts-replay}
use Rattle.zs_recordings.proofs.laws.fronts_replay.Goals as goal

pub returns : goal.returns
returns c = fronts-replay
