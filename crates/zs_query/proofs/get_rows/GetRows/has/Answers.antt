use Rattle.std.proofs.Common.{List, ◌∙◌, ap}
use Rattle.std.specs.Prelude.{is_some}
use Rattle.zs_query.specs.declared.open_get.OpenGet.{OpenGet}
use Rattle.zs_query.specs.Gets.{get_at}
use Rattle.zs_query.proofs.Indexed.{gets_found}
use Rattle.zs_query.proofs.get_rows.GetRows.has.Goals as goal

pub returns : goal.returns
returns c = c.has.ensures ∙ (ap is_some (gets_found c.args.number c.self.inside.rows c.self.inside.marks c.self.invariant) ∙ ap (λ (gs : List OpenGet). is_some (get_at c.args.number gs)) c.self.view_is)
