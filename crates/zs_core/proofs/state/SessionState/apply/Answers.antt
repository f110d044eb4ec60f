use Rattle.zs_core.proofs.Keeping.{keeps_on}
use Rattle.zs_core.proofs.state.SessionState.apply.Goals as goal

pub invariant_of-self : goal.invariant_of-self
invariant_of-self c = keeps_on c.apply.result c.self.inside.world c.apply.new.self c.args.change (rw c.self.view_is c.requires) c.self.invariant c.apply.ensures.ok c.apply.ensures.err
