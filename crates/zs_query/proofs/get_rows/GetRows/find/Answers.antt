use Rattle.std.proofs.Common.{◌∙◌, ap}
use Rattle.zs_query.specs.Gets.{get_at}
use Rattle.zs_query.proofs.Indexed.{gets_found}
use Rattle.zs_query.proofs.get_rows.GetRows.find.Goals as goal

pub returns : goal.returns
returns c = c.find.ensures ∙ (gets_found c.args.number c.self.inside.rows c.self.inside.marks c.self.invariant ∙ ap (get_at c.args.number) c.self.view_is)
