use Rattle.zs_subscriptions.specs.Lists.{shown}
use Rattle.zs_subscriptions.specs.NumberRows.{AreNumberRows, kept}
use Rattle.zs_subscriptions.proofs.Stepping.{Walked, behind_count}
use Rattle.zs_subscriptions.proofs.Listing.{Reserved}
use Rattle.zs_subscriptions.proofs.lists.reserve_lists.Given as goal

abbrev pub invariant-rows : goal.invariant-rows
invariant-rows l = record {
  are : AreNumberRows l.rows;
  walked : Walked shown kept l.after l.fn.rows l.rows;
  reserved : Reserved l.key.text l.after l.rows;
}

abbrev pub decreases-rows : goal.decreases-rows
decreases-rows l = behind_count l.after l.fn.rows
