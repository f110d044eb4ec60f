use Rattle.std.proofs.Common.{subst}
use Rattle.zs_core.specs.Keeping.{KeepsGroups}
use Rattle.zs_core.proofs.state.SessionState.keeps_groups.Goals as goal

pub returns : goal.returns
returns c = subst KeepsGroups c.self.view_is c.self.invariant
