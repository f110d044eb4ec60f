use Rattle.zs_wire.proofs.Reading.{inserted-given}
use Rattle.zs_wire.proofs.laws.insert_gives_value.Goals as goal

pub returns : goal.returns
returns c = inserted-given c.args.name.now c.args.value.now c.args.text.now
