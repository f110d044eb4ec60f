use Rattle.zs_replays.proofs.Replays.{runs-replay}
use Rattle.zs_replays.proofs.laws.runs_replay.Goals as goal

pub returns : goal.returns
returns c = runs-replay
