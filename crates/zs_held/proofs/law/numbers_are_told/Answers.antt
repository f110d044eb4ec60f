use Rattle.zs_held.proofs.Numbering.{numbers_told}
use Rattle.zs_held.proofs.law.numbers_are_told.Goals as goal

pub returns : goal.returns
returns c = numbers_told c.answers_are_numbered.ensures
