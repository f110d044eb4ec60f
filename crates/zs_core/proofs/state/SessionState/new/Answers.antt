use Rattle.std.proofs.Common.{sym, subst}
use Rattle.zs_core.specs.Keeping.{KeepsGroups}
use Rattle.zs_core.proofs.Keeping.{keeps_new}
use Rattle.zs_core.proofs.state.SessionState.new.Goals as goal

pub invariant_of-result : goal.invariant_of-result
invariant_of-result c = subst KeepsGroups (sym c.in_ok-world.ensures) (keeps_new c.args.settings.now)
