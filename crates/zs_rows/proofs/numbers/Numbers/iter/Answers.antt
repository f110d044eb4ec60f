use Rattle.zs_rows.proofs.Numbering.{numbers_ascend}
use Rattle.zs_rows.proofs.numbers.Numbers.iter.Goals as goal

pub returns-clause-ascending : goal.returns-clause-ascending
returns-clause-ascending c = rw (← c.self.view_is) (numbers_ascend c.self.inside.numbers.keys c.iter.ensures.ordered)
