use Rattle.zs_laws.proofs.Unended.{marks_are_told}
use Rattle.zs_laws.proofs.plain.marks_are_told.Goals as goal

pub returns : goal.returns
returns c = marks_are_told
