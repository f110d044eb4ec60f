use Rattle.std.proofs.Common.{◌∙◌}
use Rattle.zs_rows.proofs.Numbered.{row_of_number}
use Rattle.zs_requests.specs.declared.query_value.QueryValue.{QueryValue}
use Rattle.zs_requests.proofs.values.find_value.Goals as goal

pub returns : goal.returns
returns c = c.find.ensures ∙ row_of_number (λ (v : QueryValue). v.value) c.args.number c.args.values.now c.requires
