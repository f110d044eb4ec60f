-- What clauses see of a session that callers share.
use Rattle.std.specs.Prelude.{ℕ}
use Rattle.atomic_table.specs.Seated.{TableId}
use Rattle.zs_gate.specs.Locks.{LockSeen}

-- which session it is: its lock, whose key is the room of its passes; its own identifier in the network, the number of the session
-- itself among the entities, and its tag
pub record SessionPlace : Type 0 where
  pub lock : LockSeen TableId
  pub zid : ℕ
  pub entity : ℕ
  pub tag : ℕ

-- a cancellation token of a session: which one that is, and the token's number
pub record TokenSeen : Type 0 where
  pub session : SessionPlace
  pub number : ℕ
