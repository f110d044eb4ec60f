use Rattle.zs_script.proofs.PlainTexts.{fields-found}
use Rattle.zs_script.proofs.laws.fields_are_found.Goals as goal

pub returns : goal.returns
returns c = fields-found
