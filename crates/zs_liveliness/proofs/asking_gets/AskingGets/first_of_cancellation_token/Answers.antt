use Rattle.zs_liveliness.proofs.Asking.{cancelled_get}
use Rattle.zs_liveliness.proofs.asking_gets.AskingGets.first_of_cancellation_token.Goals as goal

pub returns : goal.returns
returns c = rw (← c.self.view_is) (rw c.from.ensures at (cancelled_get c.from.result c.self.inside.gets c.self.inside.marks c.self.invariant c.first_under.result c.first_under.ensures.found))
