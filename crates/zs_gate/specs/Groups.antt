-- What clauses see of a group of notifiers: its gate, how many passes are out, and how far its keeper has come.
use Rattle.std.specs.Prelude.{◌≡◌, ℕ, ◌≤◌}
use Rattle.atomic_table.specs.Seated.{TableId}
use Rattle.zs_gate.specs.Places.{DrainingSeen}
use Rattle.zs_gate.specs.declared.watch.Watch.{Watch}
use Rattle.zs_gate.specs.declared.watch.Watch.TheVariants.{Open, Draining, Closed, Drained}

-- the gate of the keeper
abbrev pub gate_of : Watch → TableId
gate_of (Open gate) = gate
gate_of (Draining keeper) = keeper.gate
gate_of (Closed keeper) = keeper.gate
gate_of (Drained gate) = gate

-- the keeper once the group is closed: it marked the gate, and no one waits for it any longer
abbrev pub watch_after_close : Watch → Watch
watch_after_close (Open gate) = Closed (record { gate = gate; looks = 0; count = 0 })
watch_after_close (Draining keeper) = Closed keeper
watch_after_close (Closed keeper) = Closed keeper
watch_after_close (Drained gate) = Drained gate

pub record GroupSeen : Type 0 where
  pub gate : TableId
  pub out : ℕ
  pub watch : Watch

-- a group after a look that answers nothing: its keeper marked the gate, and counted someone
abbrev pub IsWaiting : Watch → Type 0
IsWaiting watch = (keeper : DrainingSeen) × (watch ≡ Draining keeper) × (1 ≤ keeper.count)

abbrev pub IsClosed : Watch → Type 0
IsClosed watch = (keeper : DrainingSeen) × (watch ≡ Closed keeper)
