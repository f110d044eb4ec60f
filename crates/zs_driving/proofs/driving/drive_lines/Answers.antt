use Rattle.zs_driving.proofs.Completing.{completes}
use Rattle.zs_driving.proofs.driving.drive_lines.Goals as goal

pub returns-clause-completes : goal.returns-clause-completes
returns-clause-completes g c = completes _ _ c.drive_to_end.result _ _ _ _ _ c.drive_to_end.ensures
