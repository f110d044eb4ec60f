use Rattle.std.proofs.Common.{refl}
use Rattle.zs_driving.specs.declared.errors.DriveError.TheVariants.{NoMemory}
use Rattle.zs_driving.proofs.Exits.{handed_on, unstarted}
use Rattle.zs_session.specs.Driving.{IsDone, task}
use Rattle.zs_session.proofs.driving.drive.Goals as goal

pub returns-in_err-session-clause-drives : goal.returns-in_err-session-clause-drives
returns-in_err-session-clause-drives g c =
    handed_on (task c.args.settings.now) _ c.from_residual.result NoMemory _ _ _ _ _ c.from_residual.ensures.1
    (unstarted (task c.args.settings.now) _ refl _ _)
