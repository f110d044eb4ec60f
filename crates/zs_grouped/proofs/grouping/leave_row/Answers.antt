use Rattle.std.proofs.Common.{refl, ◌∙◌}
use Rattle.zs_grouped.proofs.GroupLemmas.{taken_out}
use Rattle.zs_grouped.proofs.grouping.leave_row.Goals as goal

pub returns : goal.returns
returns c = (refl, c.remove.ensures.keys ∙ taken_out c.args.id c.args.row.now.members.keys c.len-in_order.ensures.ordered)
