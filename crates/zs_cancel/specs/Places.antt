-- What clauses see of a token that threads share, and of its state under the lock.
use Rattle.atomic_table.specs.Seated.{TableId}
use Rattle.zs_cancel.specs.Tokens.{Token}

-- the gate whose pass is the right to tell the outcome, and the state
pub record LockedSeen (J : Type 0) : Type 0 where
  pub gate : TableId
  pub token : Token J

-- which token it is, by its lock, and the gate that its notifiers are inside of
pub record TokenPlace : Type 0 where
  pub token : TableId
  pub group : TableId
