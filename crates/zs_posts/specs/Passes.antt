-- What clauses see of a pass that a post lent.
use Rattle.std.specs.Prelude.{ℕ, Bool, List, ◌∷◌, ◌++◌}
use Rattle.std.specs.Option.{option_to_list}
use Rattle.atomic_table.specs.Seated.{TableId}
use Rattle.zs_posts.specs.declared.key.Key.{Key}

-- the key that it was asked for under, its gate, the room and number of its tag, and whether its last step found the gate's mark
pub record LentSeen : Type 0 where
  pub key : Key
  pub gate : TableId
  pub room : TableId
  pub number : ℕ
  pub noted : Bool
