use Rattle.zs_keyed.proofs.Numbered.{keyed_up}
use Rattle.zs_keyed.proofs.keyed_rows.KeyedRows.iter.Goals as goal

pub returns-clause-ascending : goal.returns-clause-ascending
returns-clause-ascending g c = rw (← c.self.view_is) (keyed_up g.R.Keyed.number g.R.Keyed.text c.self.inside.rows c.self.inside.tree c.self.invariant)
