use Rattle.std.proofs.Common.{◌≡◌}
use Rattle.zs_handlers.proofs.fifo.FifoSenderHandler.on.Given as goal

-- the item that waits is the one that was handed in
abbrev pub invariant-loop : goal.invariant-loop
invariant-loop g l =
    (goal.iterator-loop g).can_next l.iterator' × (goal.iterator-loop g).is_finite l.iterator' × (l.item ≡ l.fn.item)
