use Rattle.std.proofs.Common.{refl}
use Rattle.zs_driving.specs.declared.errors.DriveError.TheVariants.{NoMemory}
use Rattle.zs_driving.proofs.Exits.{handed_on, unstarted}
use Rattle.zs_groups.specs.Language.{group_task}
use Rattle.zs_groups.proofs.running.drive_sides.Goals as goal

pub returns-in_err-sides-clause-drives : goal.returns-in_err-sides-clause-drives
returns-in_err-sides-clause-drives g c =
    handed_on (group_task c.args.settings.now) _ c.from_residual.result NoMemory _ _ _ _ _ c.from_residual.ensures.1
    (unstarted (group_task c.args.settings.now) _ refl _ _)
