use Rattle.zs_recordings.proofs.Played.{unplayed}
use Rattle.zs_recordings.proofs.driving.replay.Goals as goal

pub returns-in_err-replayer : goal.returns-in_err-replayer
returns-in_err-replayer g c = unplayed c.args.settings.now c.from_residual.result _ _ c.from_residual.ensures.1
