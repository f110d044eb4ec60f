use Rattle.zs_link.proofs.Spoken.{lines_handed}
use Rattle.zs_link.proofs.laws.lines_are_handed.Goals as goal

pub returns : goal.returns
returns c = lines_handed c.events_are_plain.ensures c.delivered_are_handed.ensures
