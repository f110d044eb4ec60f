use Rattle.zs_driving.proofs.Exits.{drives_out, drives_failed}
use Rattle.zs_driving.proofs.driving.drive_to_end.Goals as goal

pub returns-in_err-write_to : goal.returns-in_err-write_to
returns-in_err-write_to g c =
    drives_failed _ _ _ c.take_lines-outcome.result c.from_residual.result _ _ _ _ _ c.take_lines-outcome.new.transcript
    c.take_lines-outcome.ensures c.write_to.ensures.part c.write_to.ensures.later (c.in_err-write_to.ensures.fault) c.from_residual.ensures.1

pub returns : goal.returns
returns g c =
    drives_out _ _ c.take_lines-outcome.result _ _ _ _ _ c.take_lines-outcome.new.transcript
    c.take_lines-outcome.ensures c.in_ok-write_to.ensures.whole c.write_to.ensures.later c.in_ok-write_to.ensures.calm
