use Rattle.zs_script.proofs.PlainEvents.{events-plain}
use Rattle.zs_script.proofs.laws.events_are_plain.Goals as goal

pub returns : goal.returns
returns c = events-plain
