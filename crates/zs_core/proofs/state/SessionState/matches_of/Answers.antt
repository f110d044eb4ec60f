use Rattle.std.proofs.Common.{ℕ, List, Option, IfSome, sym, subst}
use Rattle.zs_subscriptions.specs.Ascending.{Ascend}
use Rattle.zs_subscriptions.specs.Numbers.{key_at}
use Rattle.zs_world.specs.Keys.{numbers_for}
use Rattle.zs_core.proofs.Keeping.{matches_rise}
use Rattle.zs_core.proofs.state.SessionState.matches_of.Goals as goal

pub returns-clause-ascending : goal.returns-clause-ascending
returns-clause-ascending c =
    subst (λ (o : Option (List ℕ)). IfSome o (λ ids. Ascend (λ (id : ℕ). id) ids)) (sym c.matches_of.ensures)
    (matches_rise c.self.inside.world c.self.invariant (key_at c.args.number (numbers_for c.args.mapping c.self.inside.world)))
