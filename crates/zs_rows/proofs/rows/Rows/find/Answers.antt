use Rattle.std.proofs.Common.{◌∙◌, ap}
use Rattle.zs_rows.specs.Rows.{row_at}
use Rattle.zs_rows.proofs.Finding.{found}
use Rattle.zs_rows.proofs.rows.Rows.find.Goals as goal

pub returns : goal.returns
returns g c = c.get.ensures.value ∙ (found c.args.number c.self.inside.rows.entries ∙ ap (row_at c.args.number) c.self.view_is)
