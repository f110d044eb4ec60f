-- The calls of a turn, as far as they have been lent their passes.
use Rattle.std.specs.Prelude.{◌≡◌, ℕ, false, List, ◌++◌, Option}
use Rattle.std.specs.List.{AllByRecursion}
use Rattle.atomic_table.specs.Seated.{TableId}
use Rattle.zs_posts.specs.declared.call.Wanted.{Wanted}
use Rattle.zs_posts.specs.declared.key.Name.{Name}
use Rattle.zs_posts.specs.Posts.{Rows}
use Rattle.zs_posts.specs.Lending.{fresh, with_post, lend_all, is_overdrawn, returned_all}
use Rattle.zs_posts.specs.Settled.{PostsSeen}
use Rattle.zs_posts.specs.Calls.{CallSeen, all_lents, turn_keys, calls_of}

module _ {H T : Type 0} where
  -- behind the calls that were lent their passes, before the items that are left
  pub record Underway (room : TableId) (wanted : List (Wanted T)) (first : Rows H) (left : List (Wanted T)) (calls : List (CallSeen H T)) (now : Rows H) : Type 0 where
    pub calls_are : calls ++ calls_of left now ≡ calls_of wanted first
    pub rows_are : lend_all (turn_keys left now) now ≡ lend_all (turn_keys wanted first) first
    pub drawn : is_overdrawn (turn_keys left now) now ≡ is_overdrawn (turn_keys wanted first) first
    pub back : returned_all (all_lents calls) now ≡ first
    pub of_room : AllByRecursion (λ l. l.room ≡ room) (all_lents calls)

  -- the passes of a turn's calls were lent
  pub record IsTurn (wanted : List (Wanted T)) (old : PostsSeen H) (calls : List (CallSeen H T)) (new : PostsSeen H) : Type 0 where
    pub calls_are : calls ≡ calls_of wanted old.rows
    pub posts_are : new ≡ record old { rows = lend_all (turn_keys wanted old.rows) old.rows }
    pub fits : is_overdrawn (turn_keys wanted old.rows) old.rows ≡ false
    pub of_room : AllByRecursion (λ l. l.room ≡ old.room) (all_lents calls)

module _ {H : Type 0} where
  -- a post of that name was opened, with some gate and number
  abbrev pub IsOpened : Name → Option H → PostsSeen H → PostsSeen H → Type 0
  IsOpened name handler old new = (gate : TableId) × (number : ℕ) × (new ≡ record old { rows = with_post name.key (fresh name handler gate old.room number) old.rows })
