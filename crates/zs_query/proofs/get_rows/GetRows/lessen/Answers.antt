use Rattle.std.proofs.Common.{sym, ap, ◌∙◌, subst}
use Rattle.std.specs.Prelude.{ℕ, List}
use Rattle.zs_rows.specs.Rows.{rows_of}
use Rattle.zs_query.specs.declared.open_get.OpenGet.{OpenGet}
use Rattle.zs_query.specs.Gets.{with_get, less_final}
use Rattle.zs_query.specs.GetRows.{keys_of, AreIndexed}
use Rattle.zs_query.proofs.Indexed.{indexed_with, gets_none, gets_changed}
use Rattle.zs_query.proofs.get_rows.GetRows.lessen.Goals as goal

pub returns-in_default : goal.returns-in_default
returns-in_default c =
    (ap rows_of c.find_mut.follows.holds-at-none ∙ sym (gets_none c.args.number (less_final c.args.side) c.self.inside.rows c.self.invariant.numbered (sym c.in_default.ensures.value)))
    ∙ ap (with_get c.args.number (less_final c.args.side)) c.self.view_is

pub invariant_of-self-2 : goal.invariant_of-self-2
invariant_of-self-2 c =
    subst (λ (rows : List (ℕ × OpenGet)). AreIndexed rows c.self.inside.marks) (sym (c.find_mut.follows.holds c.take_final.new.self).0)
    (indexed_with c.args.number c.in-Some.get.now c.take_final.new.self c.self.inside.rows c.self.inside.marks c.self.invariant (sym c.in-Some.ensures.value) (ap (λ (g : OpenGet). keys_of g.row) c.take_final.ensures))

pub returns : goal.returns
returns c =
    ap rows_of (c.find_mut.follows.holds c.take_final.new.self).0
    ∙ (gets_changed c.args.number (less_final c.args.side) c.in-Some.get.now c.take_final.new.self c.self.inside.rows c.self.inside.marks c.self.invariant (sym c.in-Some.ensures.value) c.take_final.ensures
    ∙ ap (with_get c.args.number (less_final c.args.side)) c.self.view_is)
