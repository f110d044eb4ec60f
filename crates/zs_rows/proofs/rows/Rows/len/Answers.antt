use Rattle.zs_rows.proofs.Finding.{ascends}
use Rattle.zs_rows.proofs.rows.Rows.len.Goals as goal

pub returns-clause-ascending : goal.returns-clause-ascending
returns-clause-ascending g c = rw (← c.self.view_is) (ascends c.self.inside.rows.entries c.len.ensures.ordered)
