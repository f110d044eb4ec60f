use Rattle.std.proofs.Common.{refl}
use Rattle.zs_driving.specs.declared.errors.DriveError.TheVariants.{NoMemory}
use Rattle.zs_driving.proofs.Exits.{handed_on, unstarted}
use Rattle.zs_link.specs.Mode.{link_task}
use Rattle.zs_link.proofs.driving.drive_link.Goals as goal

pub returns-in_err-machine-clause-drives : goal.returns-in_err-machine-clause-drives
returns-in_err-machine-clause-drives g c =
    handed_on (link_task c.args.settings.now) _ c.from_residual.result NoMemory _ _ _ _ _ c.from_residual.ensures.1
    (unstarted (link_task c.args.settings.now) _ refl _ _)
