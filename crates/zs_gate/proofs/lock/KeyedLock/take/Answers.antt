use Rattle.std.proofs.Common.{◌∷◌, Some, sym, ap, ◌∙◌}
use Rattle.atomic_table.specs.Table.{rest}
use Rattle.zs_gate.proofs.lock.KeyedLock.take.Goals as goal

pub exchange-requires : goal.exchange-requires
exchange-requires g c =
    let taken = c.hold-seat.ensures.taken.1 in
    (c.hold-seat.ensures.seat ∙ sym (ap (λ l. l.lock) c.self.view_is), (Some taken.0, taken.1 ∙ sym (ap (λ held. (0, Some taken.0) ∷ rest held) taken.1)))
