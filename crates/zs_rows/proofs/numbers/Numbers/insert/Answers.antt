use Rattle.zs_rows.proofs.Numbering.{joined}
use Rattle.zs_rows.proofs.numbers.Numbers.insert.Goals as goal

pub returns-clause-ok : goal.returns-clause-ok
returns-clause-ok c = rw (← c.self.view_is) (joined c.args.number c.self.inside.numbers.keys c.insert.new.self.keys c.in_ok-new.ensures.updates.0)
