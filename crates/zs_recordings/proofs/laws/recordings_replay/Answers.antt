use Rattle.zs_recordings.proofs.Again.{recordings-replay}
use Rattle.zs_recordings.proofs.laws.recordings_replay.Goals as goal

pub returns : goal.returns
returns c = recordings-replay
