use Rattle.std.proofs.Common.{◌∙◌, sym, ap}
use Rattle.zs_rows.specs.Index.{under}
use Rattle.zs_rows.specs.Rows.{first_of}
use Rattle.zs_rows.proofs.Marking.{under_ascends}
use Rattle.zs_rows.proofs.Listing.{all_behind}
use Rattle.zs_rows.proofs.index.Index.next_of.Goals as goal

pub returns-in-None-clause-next : goal.returns-in-None-clause-next
returns-in-None-clause-next c = rw c.in-None.is (c.first_under.ensures.first ∙ ap first_of (sym (all_behind (under c.args.key c.args.self.now))))

pub returns-in-None-clause-ascending : goal.returns-in-None-clause-ascending
returns-in-None-clause-ascending c = rw (← c.self.view_is) (under_ascends c.args.key c.self.inside.marks.keys c.len-in_order.ensures.ordered)

pub returns-in-Some-clause-ascending : goal.returns-in-Some-clause-ascending
returns-in-Some-clause-ascending c = rw (← c.self.view_is) (under_ascends c.args.key c.self.inside.marks.keys c.len-in_order.ensures.ordered)
