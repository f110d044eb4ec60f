use Rattle.std.proofs.Common.{ap, ◌∙◌}
use Rattle.zs_rows.specs.Rows.{rows_of}
use Rattle.zs_tree.specs.Rows.{first_above}
use Rattle.zs_keyed.proofs.ByKey.{tree_matches_is}
use Rattle.zs_keyed.proofs.keyed_rows.KeyedRows.least_above.Goals as goal

pub returns-clause-least : goal.returns-clause-least
returns-clause-least g c =
    rw (← c.self.view_is)
    (c.least_above.ensures.least ∙ ap (first_above c.args.after) (tree_matches_is g.R.Keyed.number g.R.Keyed.text c.args.key.now.text (rows_of c.self.inside.rows) c.self.inside.tree c.self.invariant.tree_is))
