use Rattle.std.proofs.Common.{◌≡◌, ℕ, rules, arith}
use Rattle.zs_gate.proofs.Locking.{exchange_leaves, take_allowed}
use Rattle.zs_gate.proofs.lock.KeyedLock.hold.Goals as goal

pub compare_exchange-requires : goal.compare_exchange-requires
compare_exchange-requires g c = (search rules, search rules, take_allowed g.F.Fact.holds _ _ _ _ _ exchange_leaves c.load_new_seat-seat.ensures.2)

pub swap-requires : goal.swap-requires
swap-requires g c = (search rules, search rules, take_allowed g.F.Fact.holds _ _ _ _ _ (λ (n : ℕ) (z : 2 ≡ 0). absurd (omega arith)) c.loop.invariant.1)
