use Rattle.zs_wire.proofs.Reading.{inserted-others}
use Rattle.zs_wire.proofs.laws.insert_keeps_other_names.Goals as goal

pub returns : goal.returns
returns c = inserted-others c.args.name.now c.args.value.now c.args.text.now c.args.other.now
