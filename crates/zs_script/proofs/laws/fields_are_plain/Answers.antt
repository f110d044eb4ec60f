use Rattle.zs_script.proofs.PlainTexts.{fields-plain}
use Rattle.zs_script.proofs.laws.fields_are_plain.Goals as goal

pub returns : goal.returns
returns c = fields-plain
