use Rattle.std.proofs.Common.{ap, ◌∙◌}
use Rattle.std.specs.Prelude.{option_map}
use Rattle.zs_grouped.specs.declared.group_row.GroupRow.{GroupRow}
use Rattle.zs_grouped.proofs.GroupLemmas.{number_found}
use Rattle.zs_grouped.proofs.grouping.number_in.Goals as goal

pub returns-in-Some : goal.returns-in-Some
returns-in-Some c = ap (option_map (λ (row : GroupRow). row.number)) c.in-Some.ensures.value ∙ number_found c.args.text.now c.args.rows.now.entries

pub returns-in-None : goal.returns-in-None
returns-in-None c = ap (option_map (λ (row : GroupRow). row.number)) c.in-None.ensures.value ∙ number_found c.args.text.now c.args.rows.now.entries
