use Rattle.zs_liveliness.proofs.Asking.{over_get}
use Rattle.zs_liveliness.proofs.asking_gets.AskingGets.first_over.Goals as goal

pub returns-in-Some : goal.returns-in-Some
returns-in-Some c = rw (← c.self.view_is) (rw c.in-Some.is at (over_get c.args.now c.self.inside.gets c.self.inside.marks c.self.invariant c.first_up_to.result c.first_up_to.ensures))

pub returns-in-None : goal.returns-in-None
returns-in-None c = rw (← c.self.view_is) (rw c.in-None.is at (over_get c.args.now c.self.inside.gets c.self.inside.marks c.self.invariant c.first_up_to.result c.first_up_to.ensures))
