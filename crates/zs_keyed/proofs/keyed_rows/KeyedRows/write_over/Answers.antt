use Rattle.std.proofs.Common.{◌≡◌, true, sym, ap, subst, ◌∙◌, true≢false}
use Rattle.std.specs.Prelude.{◌==◌, is_some, Option}
use Rattle.zs_rows.specs.Rows.{row_at, rows_of, with_row}
use Rattle.zs_keyed.specs.Ascending.{placed_by}
use Rattle.zs_keyed.specs.Keyed.{with_other_key}
use Rattle.zs_keyed.proofs.Numbered.{any_at, keyed_same}
use Rattle.zs_keyed.proofs.Placing.{is_in_tree, keyed_written, rows_written}
use Rattle.zs_keyed.proofs.keyed_rows.KeyedRows.write_over.Goals as goal

pub renew_key-requires : goal.renew_key-requires
renew_key-requires g c = is_in_tree g.R.Keyed.number g.R.Keyed.text c.number-number.result c.self.inside.rows c.self.inside.tree c.self.invariant

pub unreachable-requires : goal.unreachable-requires
unreachable-requires g c =
    let some : is_some (row_at c.number-number.result c.self.inside.rows) ≡ true =
    rw c.number-number.ensures (any_at g.R.Keyed.number (g.R.Keyed.number c.args.row) c.self.inside.rows c.self.invariant.numbered ∙ rw (← c.self.view_is) at c.requires) in
    true≢false (sym some ∙ sym (ap is_some c.in_default.ensures.value))

pub invariant_of-self : goal.invariant_of-self
invariant_of-self g c = rw c.in_err-renew_key.ensures.err c.self.invariant

pub invariant_of-self-2 : goal.invariant_of-self-2
invariant_of-self-2 g c =
    let n = c.number-number.result in
    keyed_same g.R.Keyed.number g.R.Keyed.text (with_row n c.args.row c.self.inside.rows) (c.find_mut.follows.lender c.args.row) c.renew_key.new.tree
    (keyed_written g.R.Keyed.number g.R.Keyed.text n c.args.row c.in-Some.place.now c.self.inside.rows c.self.inside.tree c.renew_key.new.tree c.self.invariant c.in-Some.ensures.value (sym c.number-number.ensures)
    (c.in_ok-renew_key.ensures.ok ∙ ap (λ o. with_other_key g.R.Keyed.text n o c.args.row c.self.inside.tree) (sym c.in-Some.ensures.value)))
    (c.find_mut.follows.holds c.args.row).0

pub returns-clause-ok : goal.returns-clause-ok
returns-clause-ok g c =
    let n = c.number-number.result in
    ap rows_of (c.find_mut.follows.holds c.args.row).0
    ∙ (rows_written g.R.Keyed.number g.R.Keyed.text n c.args.row c.in-Some.place.now c.self.inside.rows c.self.inside.tree c.self.invariant c.in-Some.ensures.value (sym c.number-number.ensures)
    ∙ ap (placed_by g.R.Keyed.number c.args.row) c.self.view_is)
