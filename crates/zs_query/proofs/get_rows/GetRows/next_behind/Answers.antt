use Rattle.zs_query.proofs.Indexed.{next_row, gets_ascend}
use Rattle.zs_query.proofs.get_rows.GetRows.next_behind.Goals as goal

pub returns-in-Some-clause-next : goal.returns-in-Some-clause-next
returns-in-Some-clause-next c = next_row c.args.after c.self.inside.rows c.self.inside.marks c.args.self.now c.self.invariant c.self.view_is _ c.in-Some.ensures

pub returns-in-Some-clause-ascending : goal.returns-in-Some-clause-ascending
returns-in-Some-clause-ascending c = rw (← c.self.view_is) (gets_ascend c.self.inside.rows c.self.inside.marks c.self.invariant)

pub returns-in-None-clause-next : goal.returns-in-None-clause-next
returns-in-None-clause-next c = next_row c.args.after c.self.inside.rows c.self.inside.marks c.args.self.now c.self.invariant c.self.view_is _ c.in-None.ensures

pub returns-in-None-clause-ascending : goal.returns-in-None-clause-ascending
returns-in-None-clause-ascending c = rw (← c.self.view_is) (gets_ascend c.self.inside.rows c.self.inside.marks c.self.invariant)
