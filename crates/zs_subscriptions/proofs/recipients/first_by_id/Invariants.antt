use Rattle.std.proofs.Common.{◌≡◌, drop}
use Rattle.std.specs.List.{find}
use Rattle.zs_subscriptions.specs.Lists.{takes_by_id}
use Rattle.zs_subscriptions.proofs.recipients.first_by_id.Given as goal

abbrev pub invariant-loop-id : goal.invariant-loop-id
invariant-loop-id l = find (takes_by_id l.local l.rows) (drop l.id-index l.ids) ≡ find (takes_by_id l.local l.rows) l.ids
