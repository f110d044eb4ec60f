use Rattle.zs_laws.proofs.Unended.{told_are_last_declared}
use Rattle.zs_laws.proofs.plain.told_are_last_declared.Goals as goal

pub returns : goal.returns
returns c = told_are_last_declared
