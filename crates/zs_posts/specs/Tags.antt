-- What clauses see of a tag.
use Rattle.std.specs.Prelude.{ℕ}
use Rattle.atomic_table.specs.Seated.{TableId}

-- the room in which it is, its number, and the gate of that number
pub record TagSeen : Type 0 where
  pub room : TableId
  pub number : ℕ
  pub gate : TableId
