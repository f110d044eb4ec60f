use Rattle.zs_recordings.proofs.Recorded.{unrecorded}
use Rattle.zs_recordings.proofs.driving.record.Goals as goal

pub returns-in_err-recorder : goal.returns-in_err-recorder
returns-in_err-recorder g c = unrecorded c.args.settings.now c.from_residual.result _ _ c.from_residual.ensures.1
