use Rattle.zs_event_lines.proofs.OneLine.{printed-lines}
use Rattle.zs_event_lines.proofs.laws.printed_events_are_lines.Goals as goal

pub returns : goal.returns
returns c = printed-lines
