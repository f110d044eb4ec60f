use Rattle.std.proofs.Common.{◌≡◌, ◌++◌, flat_map, take}
use Rattle.zs_exchange.specs.Exchange.{sent_by}
use Rattle.zs_exchange.proofs.outbox.push_each.Given as goal

abbrev pub invariant-loop-effect : goal.invariant-loop-effect
invariant-loop-effect l = l.outbox.items ≡ l.fn.outbox.items ++ flat_map sent_by (take l.effect-index l.effects)
