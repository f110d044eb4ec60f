use Rattle.zs_rows.specs.Rows.{rows_of}
use Rattle.zs_keyed.proofs.ByKey.{tree_matches_is}
use Rattle.zs_keyed.proofs.Numbered.{keyed_up}
use Rattle.zs_keyed.proofs.keyed_rows.KeyedRows.matches_into.Goals as goal

pub returns-clause-ok : goal.returns-clause-ok
returns-clause-ok g c =
    let same = tree_matches_is g.R.Keyed.number g.R.Keyed.text c.args.key.now.text (rows_of c.self.inside.rows) c.self.inside.tree c.self.invariant.tree_is in
    rw (← c.self.view_is, ← same) c.matches_uncounted.ensures.ok

pub returns-clause-ascending : goal.returns-clause-ascending
returns-clause-ascending g c = rw (← c.self.view_is) (keyed_up g.R.Keyed.number g.R.Keyed.text c.self.inside.rows c.self.inside.tree c.self.invariant)
