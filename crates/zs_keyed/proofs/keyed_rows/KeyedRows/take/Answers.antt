use Rattle.std.proofs.Common.{ap, ◌∙◌}
use Rattle.std.specs.Prelude.{◌==◌, not, filter}
use Rattle.std.specs.List.{find}
use Rattle.zs_rows.specs.Rows.{rows_of}
use Rattle.zs_rows.proofs.Numbered.{row_of_number, rows_without}
use Rattle.zs_keyed.proofs.Numbered.{keyed_same, keyed_less, without_none}
use Rattle.zs_keyed.proofs.keyed_rows.KeyedRows.take.Goals as goal

pub invariant_of-self : goal.invariant_of-self
invariant_of-self g c =
    keyed_same g.R.Keyed.number g.R.Keyed.text c.self.inside.rows c.remove.new.self c.self.inside.tree c.self.invariant
    (c.remove.ensures.rows ∙ without_none c.args.number c.self.inside.rows c.in_default.ensures.row)

pub returns-in_default-clause-answer : goal.returns-in_default-clause-answer
returns-in_default-clause-answer g c =
    c.in_default.ensures.row ∙ (row_of_number g.R.Keyed.number c.args.number c.self.inside.rows c.self.invariant.numbered ∙ ap (find (λ row. g.R.Keyed.number row == c.args.number)) c.self.view_is)

pub returns-in_default-clause-rows : goal.returns-in_default-clause-rows
returns-in_default-clause-rows g c =
    ap rows_of c.remove.ensures.rows
    ∙ (rows_without g.R.Keyed.number c.args.number c.self.inside.rows c.self.invariant.numbered ∙ ap (filter (λ row. not (g.R.Keyed.number row == c.args.number))) c.self.view_is)

pub invariant_of-self-2 : goal.invariant_of-self-2
invariant_of-self-2 g c =
    keyed_less g.R.Keyed.number g.R.Keyed.text c.args.number c.in-Some.row c.self.inside.rows c.remove.new.self c.self.inside.tree c.remove-2.new.self c.self.invariant
    c.in-Some.ensures.row c.in-Some.ensures.rows c.in-Some.ensures.ascending (rw c.key.ensures at c.remove-2.ensures.rows)

pub returns-clause-answer : goal.returns-clause-answer
returns-clause-answer g c =
    c.in-Some.ensures.row ∙ (row_of_number g.R.Keyed.number c.args.number c.self.inside.rows c.self.invariant.numbered ∙ ap (find (λ row. g.R.Keyed.number row == c.args.number)) c.self.view_is)

pub returns-clause-rows : goal.returns-clause-rows
returns-clause-rows g c =
    ap rows_of c.in-Some.ensures.rows
    ∙ (rows_without g.R.Keyed.number c.args.number c.self.inside.rows c.self.invariant.numbered ∙ ap (filter (λ row. not (g.R.Keyed.number row == c.args.number))) c.self.view_is)
