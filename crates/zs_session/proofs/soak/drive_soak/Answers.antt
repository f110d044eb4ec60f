use Rattle.std.proofs.Common.{◌≡◌, ◌∙◌}
use Rattle.zs_session.specs.Soak.{soak_report}
use Rattle.zs_session.proofs.soak.drive_soak.Goals as goal

pub returns-in_err-write_whole-clause-part : goal.returns-in_err-write_whole-clause-part
returns-in_err-write_whole-clause-part g c =
    let piece : c.as_bytes.result.now ≡ soak_report c.args.soak = c.as_bytes.ensures.value ∙ c.in_ok-report.ensures in
    rw piece at c.write_whole.ensures.part

pub returns-clause-part : goal.returns-clause-part
returns-clause-part g c =
    let piece : c.as_bytes.result.now ≡ soak_report c.args.soak = c.as_bytes.ensures.value ∙ c.in_ok-report.ensures in
    rw piece at c.write_whole.ensures.part
