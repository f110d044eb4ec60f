use Rattle.zs_subscriptions.specs.Lists.{shown, emptied}
use Rattle.zs_subscriptions.specs.NumberRows.{AreNumberRows}
use Rattle.zs_subscriptions.proofs.Stepping.{Walked, behind_count}
use Rattle.zs_subscriptions.proofs.lists.empty_lists.Given as goal

abbrev pub invariant-rows : goal.invariant-rows
invariant-rows l = record {
  are : AreNumberRows l.rows;
  walked : Walked shown emptied l.after l.fn.rows l.rows;
}

abbrev pub decreases-rows : goal.decreases-rows
decreases-rows l = behind_count l.after l.fn.rows
