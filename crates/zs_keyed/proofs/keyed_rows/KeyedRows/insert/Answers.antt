use Rattle.std.proofs.Common.{◌≡◌, false, sym, ap, ◌∙◌}
use Rattle.std.specs.Prelude.{◌==◌, is_some}
use Rattle.std.specs.List.{list_any}
use Rattle.zs_rows.specs.Rows.{row_at, rows_of}
use Rattle.zs_keyed.specs.Ascending.{placed_by}
use Rattle.zs_keyed.proofs.Ascending.{none_has}
use Rattle.zs_keyed.proofs.ByKey.{none_in_tree}
use Rattle.zs_keyed.proofs.Numbered.{any_at, rows_put, keyed_more, keyed_same, undone}
use Rattle.zs_keyed.proofs.keyed_rows.KeyedRows.insert.Goals as goal

pub insert-requires : goal.insert-requires
insert-requires g c =
    rw c.number-number.ensures
    (any_at g.R.Keyed.number (g.R.Keyed.number c.args.row) c.self.inside.rows c.self.invariant.numbered ∙ rw (← c.self.view_is) at c.requires)

pub note_key-requires : goal.note_key-requires
note_key-requires g c =
    rw c.number-number.ensures
    (none_in_tree g.R.Keyed.number g.R.Keyed.text (g.R.Keyed.number c.args.row) (rows_of c.self.inside.rows) c.self.inside.tree c.self.invariant.tree_is
    (none_has g.R.Keyed.number (g.R.Keyed.number c.args.row) (rows_of c.self.inside.rows) (rw (← c.self.view_is) at c.requires)))

pub invariant_of-self-in-Err : goal.invariant_of-self-in-Err
invariant_of-self-in-Err g c =
    let unused : is_some (row_at c.number-number.result c.self.inside.rows) ≡ false =
    rw c.number-number.ensures (any_at g.R.Keyed.number (g.R.Keyed.number c.args.row) c.self.inside.rows c.self.invariant.numbered ∙ rw (← c.self.view_is) at c.requires) in
    let same = undone c.number-number.result c.args.row c.self.inside.rows c.insert.new.self c.remove.new.self c.self.invariant.ascending c.remove.ensures.ascending unused c.in_ok-insert.ensures.found c.remove.ensures.found in
    rw c.in-Err.ensures.err (keyed_same g.R.Keyed.number g.R.Keyed.text c.self.inside.rows c.remove.new.self c.self.inside.tree c.self.invariant same)

pub returns-in-Err-clause-err : goal.returns-in-Err-clause-err
returns-in-Err-clause-err g c =
    let unused : is_some (row_at c.number-number.result c.self.inside.rows) ≡ false =
    rw c.number-number.ensures (any_at g.R.Keyed.number (g.R.Keyed.number c.args.row) c.self.inside.rows c.self.invariant.numbered ∙ rw (← c.self.view_is) at c.requires) in
    ap rows_of (undone c.number-number.result c.args.row c.self.inside.rows c.insert.new.self c.remove.new.self c.self.invariant.ascending c.remove.ensures.ascending unused c.in_ok-insert.ensures.found c.remove.ensures.found)
    ∙ c.self.view_is

pub invariant_of-self-in_default : goal.invariant_of-self-in_default
invariant_of-self-in_default g c =
    keyed_more g.R.Keyed.number g.R.Keyed.text c.args.row c.self.inside.rows c.insert.new.self c.self.inside.tree c.note_key.new.tree c.self.invariant (rw (← c.self.view_is) at c.requires)
    (rw c.number-number.ensures at c.in_ok-insert.ensures.rows) (rw c.number-number.ensures at c.in_ok-insert.ensures.found) c.in_ok-insert.ensures.ascending (rw c.number-number.ensures at c.in_default.ensures.ok)

pub returns-clause-ok : goal.returns-clause-ok
returns-clause-ok g c =
    rows_put g.R.Keyed.number g.R.Keyed.text c.args.row c.self.inside.rows c.insert.new.self c.self.inside.tree c.self.invariant (rw (← c.self.view_is) at c.requires) (rw c.number-number.ensures at c.in_ok-insert.ensures.rows)
    ∙ ap (placed_by g.R.Keyed.number c.args.row) c.self.view_is
