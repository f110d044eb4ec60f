use Rattle.std.proofs.Common.{ap, ◌∙◌}
use Rattle.std.specs.Prelude.{◌==◌}
use Rattle.std.specs.List.{find}
use Rattle.zs_rows.proofs.Numbered.{row_of_number}
use Rattle.zs_keyed.proofs.keyed_rows.KeyedRows.find.Goals as goal

pub returns : goal.returns
returns g c = c.find.ensures ∙ (row_of_number g.R.Keyed.number c.args.number c.self.inside.rows c.self.invariant.numbered ∙ ap (find (λ row. g.R.Keyed.number row == c.args.number)) c.self.view_is)
