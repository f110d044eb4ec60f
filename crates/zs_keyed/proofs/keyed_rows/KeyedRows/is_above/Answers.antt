use Rattle.std.proofs.Common.{◌≡◌, ℕ, true, false, Some, refl, sym}
use Rattle.std.specs.Prelude.{filter, is_some}
use Rattle.zs_rows.specs.Rows.{first_of, is_behind}
use Rattle.zs_keyed.proofs.Numbered.{above_match}
use Rattle.zs_keyed.proofs.keyed_rows.KeyedRows.is_above.Goals as goal

pub returns-then-not-has : goal.returns-then-not-has
returns-then-not-has g c =
    let out : c.has.result ≡ false = cc in
    rw (← c.self.view_is)
    (rw out at (above_match g.R.Keyed.number c.args.number c.self.inside.rows c.has.result c.has_behind.result c.self.invariant.numbered c.has.ensures c.has_behind.ensures))

pub returns-else-not-has : goal.returns-else-not-has
returns-else-not-has g c =
    let is : c.has.result ≡ true = cc in
    rw (← c.self.view_is, is)
    (rw is at (above_match g.R.Keyed.number c.args.number c.self.inside.rows c.has.result (is_some (first_of (filter (λ e. is_behind (Some c.args.number) e.0) c.self.inside.rows))) c.self.invariant.numbered c.has.ensures refl))
