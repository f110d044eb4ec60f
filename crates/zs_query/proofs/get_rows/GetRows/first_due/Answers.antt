use Rattle.zs_query.proofs.Indexed.{due_get}
use Rattle.zs_query.proofs.get_rows.GetRows.first_due.Goals as goal

pub returns-in-Some : goal.returns-in-Some
returns-in-Some c = rw (← c.self.view_is) (rw c.in-Some.is at (due_get c.args.now c.self.inside.rows c.self.inside.marks c.self.invariant c.first_up_to.result c.first_up_to.ensures))

pub returns-in-None : goal.returns-in-None
returns-in-None c = rw (← c.self.view_is) (rw c.in-None.is at (due_get c.args.now c.self.inside.rows c.self.inside.marks c.self.invariant c.first_up_to.result c.first_up_to.ensures))
