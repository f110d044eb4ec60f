use Rattle.std.proofs.Common.{length}
use Rattle.std.specs.Prelude.{filter}
use Rattle.zs_subscriptions.specs.Recipients.{matches, is_behind}
use Rattle.zs_subscriptions.specs.Lists.{takes_by_id}
use Rattle.zs_subscriptions.proofs.Keyed.{Sought}
use Rattle.zs_subscriptions.proofs.recipients.first_in_tree.Given as goal

abbrev pub invariant-loop-id : goal.invariant-loop-id
invariant-loop-id g l = Sought (takes_by_id l.local l.rows) (matches l.key.text l.rows) l.fn.after l.last

abbrev pub decreases-loop-id : goal.decreases-loop-id
decreases-loop-id g l = length (filter (is_behind l.last) (matches l.key.text l.rows))
