use Rattle.zs_event_lines.proofs.EventsBack.{printed-events}
use Rattle.zs_event_lines.proofs.laws.printed_events_are_read.Goals as goal

pub returns : goal.returns
returns c = printed-events
