use Rattle.std.proofs.Common.{◌∙◌}
use Rattle.zs_liveliness.proofs.Asking.{asking_at}
use Rattle.zs_liveliness.proofs.asking_gets.AskingGets.has.Goals as goal

pub returns : goal.returns
returns c = c.has.ensures ∙ asking_at c.args.number c.self.inside.gets c.self.inside.marks c.args.self.now c.self.invariant c.self.view_is
