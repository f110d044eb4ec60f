use Rattle.zs_caller_laws.proofs.Plain.{lines_are}
use Rattle.zs_caller_laws.proofs.laws.calls_are_lines.Goals as goal

pub returns : goal.returns
returns g c = lines_are _
