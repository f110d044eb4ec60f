use Rattle.std.proofs.Common.{◌∙◌}
use Rattle.zs_rows.proofs.Numbering.{numbers_ascend, taken}
use Rattle.zs_rows.proofs.numbers.Numbers.remove.Goals as goal

pub returns-clause-numbers : goal.returns-clause-numbers
returns-clause-numbers c = rw (← c.self.view_is) (c.remove.ensures.keys ∙ taken c.args.number c.self.inside.numbers.keys (numbers_ascend c.self.inside.numbers.keys c.len-in_order.ensures.ordered))
