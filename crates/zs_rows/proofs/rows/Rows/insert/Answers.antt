use Rattle.std.proofs.Common.{◌≡◌, false, ◌∙◌, ap}
use Rattle.std.specs.Prelude.{Some, is_some}
use Rattle.zs_rows.specs.Rows.{row_at}
use Rattle.zs_rows.proofs.Finding.{inserted, updated, ascends}
use Rattle.zs_rows.proofs.rows.Rows.insert.Goals as goal

pub returns-clause-rows : goal.returns-clause-rows
returns-clause-rows g c =
    let unused : is_some (row_at c.args.number c.self.inside.rows.entries) ≡ false = ap (λ rows. is_some (row_at c.args.number rows)) c.self.view_is ∙ c.requires in
    rw (← c.self.view_is) (c.in_ok-insert.ensures.entries ∙ inserted c.args.number c.args.row c.self.inside.rows.entries (ascends c.self.inside.rows.entries c.insert.ensures.was_ordered) unused)

pub returns-clause-found : goal.returns-clause-found
returns-clause-found g c = rw (← c.self.view_is) (updated c.args.number (Some c.args.row) c.self.inside.rows.entries c.insert.new.self.entries c.in_ok-insert.ensures.updates.0)

pub returns-clause-ascending : goal.returns-clause-ascending
returns-clause-ascending g c = ascends c.insert.new.self.entries c.insert.ensures.ordered

pub returns-in_err-insert-clause-ascending : goal.returns-in_err-insert-clause-ascending
returns-in_err-insert-clause-ascending g c = ascends c.insert.new.self.entries c.insert.ensures.ordered
