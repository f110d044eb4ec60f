use Rattle.std.proofs.Common.{◌≡◌, true, sym, ap, ◌∙◌, true≢false}
use Rattle.std.specs.Prelude.{is_some}
use Rattle.zs_rows.specs.Rows.{row_at}
use Rattle.zs_subscriptions.proofs.Listing.{rows_over}
use Rattle.zs_subscriptions.proofs.Numbering.{number_there, over_is}
use Rattle.zs_subscriptions.proofs.number_rows.NumberRows.write_over.Goals as goal

pub unreachable-requires : goal.unreachable-requires
unreachable-requires c =
    let some : is_some (row_at c.args.row.number c.self.inside.rows) ≡ true = number_there c.args.row.number c.self.inside.rows c.args.self.now c.self.invariant c.self.view_is ∙ c.requires in
    true≢false (sym some ∙ sym (ap is_some (rw c.from.ensures at c.in_default.ensures.value)))

pub invariant_of-self : goal.invariant_of-self
invariant_of-self c = rows_over c.from.result c.args.row c.self.inside.rows _ c.self.invariant (sym c.from.ensures) (c.find_mut.follows.holds c.args.row).0

pub returns : goal.returns
returns c = over_is c.from.result c.args.row c.in-Some.place.now c.self.inside.rows _ c.args.self.now c.self.invariant c.self.view_is c.in-Some.ensures.value (sym c.from.ensures) (c.find_mut.follows.holds c.args.row).0
