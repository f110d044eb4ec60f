use Rattle.std.proofs.Common.{refl}
use Rattle.zs_subscriptions.specs.Lists.{forgotten}
use Rattle.zs_subscriptions.proofs.Indexing.{still_indexed}
use Rattle.zs_subscriptions.proofs.Tabled.{lists_ascend, in_order_without, same_contents, held_stays}
use Rattle.zs_subscriptions.proofs.tables.Tables.remove.Goals as goal

pub forget-requires : goal.forget-requires
forget-requires c = lists_ascend _ _ c.self.invariant.order.ascending c.self.invariant.order.own_current

pub forget-requires-2 : goal.forget-requires-2
forget-requires-2 c = lists_ascend _ _ c.self.invariant.order.ascending c.self.invariant.order.told_current

pub invariant_of-self : goal.invariant_of-self
invariant_of-self c = record {
  order = in_order_without c.args.id _ _ _ _ _ _ c.self.invariant.order c.remove.ensures.rows c.forget.ensures c.forget-2.ensures;
  indexed = still_indexed _ _ c.self.inside.texts (held_stays (forgotten c.args.id) (λ n. refl) c.self.inside.own _ c.forget.ensures) c.self.invariant.indexed;
}

pub returns-clause-answer : goal.returns-clause-answer
returns-clause-answer c = rw (← c.self.view_is) c.remove.ensures.answer

pub returns-clause-rows : goal.returns-clause-rows
returns-clause-rows c =
    rw (← c.self.view_is) (same_contents _ _ _ _ _ _ c.remove.ensures.rows
    (held_stays (forgotten c.args.id) (λ n. refl) c.self.inside.own _ c.forget.ensures)
    (held_stays (forgotten c.args.id) (λ n. refl) c.self.inside.told _ c.forget-2.ensures))
