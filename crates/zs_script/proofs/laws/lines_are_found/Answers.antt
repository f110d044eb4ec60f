use Rattle.zs_script.proofs.PlainTexts.{lines-found}
use Rattle.zs_script.proofs.laws.lines_are_found.Goals as goal

pub returns : goal.returns
returns c = lines-found
