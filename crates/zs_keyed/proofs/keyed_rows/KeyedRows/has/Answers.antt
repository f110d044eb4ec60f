use Rattle.std.proofs.Common.{ap, ◌∙◌}
use Rattle.std.specs.Prelude.{◌==◌}
use Rattle.std.specs.List.{list_any}
use Rattle.zs_keyed.proofs.Numbered.{any_at}
use Rattle.zs_keyed.proofs.keyed_rows.KeyedRows.has.Goals as goal

pub returns : goal.returns
returns g c = c.has.ensures ∙ (any_at g.R.Keyed.number c.args.number c.self.inside.rows c.self.invariant.numbered ∙ ap (list_any (λ row. g.R.Keyed.number row == c.args.number)) c.self.view_is)
