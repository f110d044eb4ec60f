use Rattle.zs_script_laws.proofs.Spoken.{lines_spelled}
use Rattle.zs_script_laws.proofs.laws.lines_are_spelled.Goals as goal

pub returns : goal.returns
returns c = lines_spelled c.events_are_plain.ensures
