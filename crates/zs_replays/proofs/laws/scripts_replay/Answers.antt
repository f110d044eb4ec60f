use Rattle.zs_replays.proofs.Replays.{scripts-replay}
use Rattle.zs_replays.proofs.laws.scripts_replay.Goals as goal

pub returns : goal.returns
returns c = scripts-replay
