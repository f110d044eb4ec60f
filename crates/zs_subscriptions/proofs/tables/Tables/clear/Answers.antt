use Rattle.std.proofs.Common.{ap, refl}
use Rattle.std.specs.Prelude.{map}
use Rattle.zs_subscriptions.specs.Lists.{shown, held, emptied}
use Rattle.zs_subscriptions.proofs.Indexing.{none_indexed}
use Rattle.zs_subscriptions.proofs.Tabled.{in_order_cleared, same_contents, held_stays}
use Rattle.zs_subscriptions.proofs.tables.Tables.clear.Goals as goal

pub invariant_of-self : goal.invariant_of-self
invariant_of-self c = record {
  order = in_order_cleared _ _ _ _ _ _ c.self.invariant.order c.clear.ensures (ap (map shown) c.clear-2.ensures) c.empty_lists.ensures;
  indexed = none_indexed c.clear-3.new.self c.clear-3.ensures.empty _ (ap held c.clear-2.ensures);
}

pub returns : goal.returns
returns c = rw (← c.self.view_is) (same_contents _ _ _ _ _ _ c.clear.ensures (ap held c.clear-2.ensures) (held_stays emptied (λ n. refl) c.self.inside.told _ c.empty_lists.ensures))
