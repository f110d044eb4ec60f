use Rattle.zs_rows.proofs.Finding.{ascends}
use Rattle.zs_rows.proofs.rows.Rows.iter.Goals as goal

pub returns-clause-ascending : goal.returns-clause-ascending
returns-clause-ascending g c = rw (← c.self.view_is) (ascends c.self.inside.rows.entries c.iter.ensures.ordered)
