use Rattle.std.proofs.Common.{◌∙◌}
use Rattle.zs_keyed.proofs.Ascending.{above_all, any_none, placed_last}
use Rattle.zs_keyed.proofs.keyed_rows.KeyedRows.add.Goals as goal

pub insert-requires : goal.insert-requires
insert-requires g c = any_none g.R.Keyed.number (g.R.Keyed.number c.args.row) c.args.self.now (above_all g.R.Keyed.number (g.R.Keyed.number c.args.row) c.args.self.now c.requires)

pub returns-clause-ok : goal.returns-clause-ok
returns-clause-ok g c = rw (← placed_last g.R.Keyed.number c.args.row c.args.self.now c.requires) c.insert.ensures.ok
