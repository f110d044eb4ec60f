use Rattle.zs_event_lines.proofs.ReadEvents.{lines-say}
use Rattle.zs_event_lines.proofs.laws.lines_are_sayable.Goals as goal

pub returns : goal.returns
returns c = lines-say
