-- What clauses see of a gate's values. A gate is the identity of its table.
use Rattle.std.specs.Prelude.{ℕ, Bool}
use Rattle.atomic_table.specs.Seated.{TableId}
use Rattle.zs_gate.specs.declared.view.View.{View}

-- a seat: its gate, and its view
pub record Place : Type 0 where
  pub gate : TableId
  pub knows : View

-- a door: how many of its passes are out
pub record DoorSeen : Type 0 where
  pub gate : TableId
  pub out : ℕ

-- a pass: whether its last step found the mark
pub record PassSeen : Type 0 where
  pub gate : TableId
  pub noted : Bool

-- a draining keeper: how often it looked, and what the last look counted
pub record DrainingSeen : Type 0 where
  pub gate : TableId
  pub looks : ℕ
  pub count : ℕ
