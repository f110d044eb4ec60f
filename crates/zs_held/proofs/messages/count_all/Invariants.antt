use Rattle.std.proofs.Common.{◌≡◌, ◌≤◌, flat_map, take, length}
use Rattle.zs_exchange.specs.Exchange.{sent_by}
use Rattle.zs_held.proofs.messages.count_all.Given as goal

abbrev pub invariant-loop-effect : goal.invariant-loop-effect
invariant-loop-effect l = (l.count ≡ length (flat_map sent_by (take l.effect-index l.effects))) × (l.count ≤ l.effect-index)
