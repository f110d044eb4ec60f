use Rattle.std.proofs.Common.{◌∙◌, ap}
use Rattle.std.specs.Prelude.{None}
use Rattle.zs_rows.specs.Rows.{row_at}
use Rattle.zs_rows.proofs.Finding.{found, removed, updated, ascends}
use Rattle.zs_rows.proofs.rows.Rows.remove.Goals as goal

pub returns-clause-row : goal.returns-clause-row
returns-clause-row g c = c.remove.ensures.value ∙ (found c.args.number c.self.inside.rows.entries ∙ ap (row_at c.args.number) c.self.view_is)

pub returns-clause-rows : goal.returns-clause-rows
returns-clause-rows g c = rw (← c.self.view_is) (c.remove.ensures.entries ∙ removed c.args.number c.self.inside.rows.entries (ascends c.self.inside.rows.entries c.len-in_order.ensures.ordered))

pub returns-clause-found : goal.returns-clause-found
returns-clause-found g c = rw (← c.self.view_is) (updated c.args.number None c.self.inside.rows.entries c.remove.new.self.entries c.remove.ensures.updates.0)

pub returns-clause-ascending : goal.returns-clause-ascending
returns-clause-ascending g c = ascends c.remove.new.self.entries c.remove.ensures.ordered
