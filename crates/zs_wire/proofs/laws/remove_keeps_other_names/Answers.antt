use Rattle.zs_wire.proofs.Reading.{removed-others}
use Rattle.zs_wire.proofs.laws.remove_keeps_other_names.Goals as goal

pub returns : goal.returns
returns c = removed-others c.args.name.now c.args.text.now c.args.other.now
