-- What posts lend and take back.
use Rattle.std.specs.Prelude.{◌≡◌, ℕ, ◌==◌, Bool, true, false, ◌||◌, List, [], ◌∷◌, ◌++◌, Option, Some, None}
use Rattle.std.specs.BTreeMap.{insert_entry}
use Rattle.std.specs.List.{AllByRecursion}
use Rattle.std.specs.Map.{remove_entry}
use Rattle.atomic_table.specs.Seated.{TableId}
use Rattle.zs_posts.specs.declared.key.Key.{Key}
use Rattle.zs_posts.specs.declared.key.Name.{Name}
use Rattle.zs_posts.specs.Keys.{is_key, key_order}
use Rattle.zs_posts.specs.Passes.{LentSeen}
use Rattle.zs_posts.specs.Posts.{PostSeen, Rows, post_at, changed, raised, lowered_by}

module _ {H : Type 0} where
  -- a post without the mark, of which no pass is out
  abbrev pub fresh : Name → Option H → TableId → TableId → ℕ → PostSeen H
  fresh name handler gate room number = record { name = name; handler = handler; ended = false; gate = gate; room = room; number = number; out = 0 }

  -- the rows with a post under a key, and without one
  abbrev pub with_post : Key → PostSeen H → Rows H → Rows H
  with_post key p rows = insert_entry key_order rows key p

  abbrev pub without : Key → Rows H → Rows H
  without key rows = remove_entry (is_key key) rows

  -- the pass that a post lends under a key
  abbrev pub lent_of : Key → PostSeen H → LentSeen
  lent_of key p = record { key = key; gate = p.gate; room = p.room; number = p.number; noted = false }

  abbrev pub lents_for : Key → Option (PostSeen H) → List LentSeen
  lents_for key None = []
  lents_for key (Some p) = lent_of key p ∷ []

  -- the rows after the post of a key lent a pass
  abbrev pub lend : Key → Rows H → Rows H
  lend key rows = changed raised key rows

  abbrev pub lend_all : List Key → Rows H → Rows H
  lend_all [] rows = rows
  lend_all (key ∷ keys) rows = lend_all keys (lend key rows)

  -- the passes that are lent for keys in turn, one for each that has a post
  abbrev pub lents_of : List Key → Rows H → List LentSeen
  lents_of [] rows = []
  lents_of (key ∷ keys) rows = lents_for key (post_at key rows) ++ lents_of keys (lend key rows)

  -- all passes of the post are out
  abbrev pub is_full : Option (PostSeen H) → Bool
  is_full None = false
  is_full (Some p) = p.out == 4294967295

  -- as the keys' passes are lent in turn, some post has none left
  abbrev pub is_overdrawn : List Key → Rows H → Bool
  is_overdrawn [] rows = false
  is_overdrawn (key ∷ keys) rows = is_full (post_at key rows) || is_overdrawn keys (lend key rows)

  -- the rows after the post of a pass took it back: if it is there no more, nothing changes
  abbrev pub returned : LentSeen → Rows H → Rows H
  returned lent rows = changed (lowered_by lent) lent.key rows

  -- the last comes back first
  abbrev pub returned_all : List LentSeen → Rows H → Rows H
  returned_all [] rows = rows
  returned_all (lent ∷ lents) rows = returned lent (returned_all lents rows)

  -- these passes were lent for these keys
  pub record IsLent (room : TableId) (keys : List Key) (old : Rows H) (lents : List LentSeen) (new : Rows H) : Type 0 where
    pub lents_are : lents ≡ lents_of keys old
    pub rows_are : new ≡ lend_all keys old
    pub fits : is_overdrawn keys old ≡ false
    pub of_room : AllByRecursion (λ l. l.room ≡ room) lents
