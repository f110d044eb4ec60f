use Rattle.zs_subscriptions.specs.Lists.{shown, forgotten}
use Rattle.zs_subscriptions.specs.NumberRows.{AreNumberRows}
use Rattle.zs_subscriptions.proofs.Stepping.{Walked, behind_count}
use Rattle.zs_subscriptions.proofs.lists.forget_id.Given as goal

abbrev pub invariant-rows : goal.invariant-rows
invariant-rows l = record {
  are : AreNumberRows l.rows;
  walked : Walked shown (forgotten l.id) l.after l.fn.rows l.rows;
}

abbrev pub decreases-rows : goal.decreases-rows
decreases-rows l = behind_count l.after l.fn.rows
