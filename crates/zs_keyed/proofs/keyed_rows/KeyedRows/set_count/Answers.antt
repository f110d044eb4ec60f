use Rattle.std.proofs.Common.{◌≡◌, ℕ, List, sym, ap, ◌∙◌, subst}
use Rattle.std.specs.Prelude.{◌==◌, map, if◌then◌else◌}
use Rattle.zs_rows.specs.Rows.{rows_of}
use Rattle.zs_keyed.specs.Keyed.{AreKeyed}
use Rattle.zs_keyed.proofs.Numbered.{counted_none, counted_one, keyed_same, keyed_over}
use Rattle.zs_keyed.proofs.keyed_rows.KeyedRows.set_count.Goals as goal

pub invariant_of-self : goal.invariant_of-self
invariant_of-self g c = keyed_same g.R.Keyed.number g.R.Keyed.text c.self.inside.rows c.find_mut.follows.lender-at-none c.self.inside.tree c.self.invariant c.find_mut.follows.holds-at-none

pub returns-in_default : goal.returns-in_default
returns-in_default g c =
    ap rows_of c.find_mut.follows.holds-at-none
    ∙ (counted_none g.R.Keyed.number (g.R.Counted.counted c.args.count) c.args.number c.self.inside.rows c.self.invariant.numbered c.in_default.ensures.value
    ∙ ap (map (λ row. if g.R.Keyed.number row == c.args.number then g.R.Counted.counted c.args.count row else row)) c.self.view_is)

pub invariant_of-self-2 : goal.invariant_of-self-2
invariant_of-self-2 g c =
    keyed_same g.R.Keyed.number g.R.Keyed.text _ (c.find_mut.follows.lender c.set_count.new.self) c.self.inside.tree
    (keyed_over g.R.Keyed.number g.R.Keyed.text c.args.number c.in-Some.row.now c.set_count.new.self c.self.inside.rows c.self.inside.tree c.self.invariant c.in-Some.ensures.value c.set_count.ensures.number c.set_count.ensures.text)
    (c.find_mut.follows.holds c.set_count.new.self).0

pub returns : goal.returns
returns g c =
    ap rows_of (c.find_mut.follows.holds c.set_count.new.self).0
    ∙ (counted_one g.R.Keyed.number (g.R.Counted.counted c.args.count) c.args.number c.in-Some.row.now c.set_count.new.self c.self.inside.rows c.self.invariant.numbered c.self.invariant.ascending c.in-Some.ensures.value c.set_count.ensures.row
    ∙ ap (map (λ row. if g.R.Keyed.number row == c.args.number then g.R.Counted.counted c.args.count row else row)) c.self.view_is)
