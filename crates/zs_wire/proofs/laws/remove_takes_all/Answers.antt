use Rattle.zs_wire.proofs.Reading.{removed-all}
use Rattle.zs_wire.proofs.laws.remove_takes_all.Goals as goal

pub returns : goal.returns
returns c = removed-all c.args.name.now c.args.text.now
