-- All posts of a session: those under their keys, and those that wait to be given out.
use Rattle.std.specs.Prelude.{◌≡◌, Bool, true, false, cond, List, [], ◌∷◌, ◌++◌, Option, Some, None}
use Rattle.std.specs.List.{AllByRecursion}
use Rattle.atomic_table.specs.Seated.{TableId}
use Rattle.zs_posts.specs.declared.key.Key.{Key}
use Rattle.zs_posts.specs.Keys.{is_key}
use Rattle.zs_posts.specs.Passes.{LentSeen}
use Rattle.zs_posts.specs.Posts.{PostSeen, Rows, post_at, changed, flagged, is_spent, spent_at}
use Rattle.zs_posts.specs.Lending.{without, returned}

-- the posts under their keys, and those that were ended and have no pass out, the first to be given out first
pub record PostsSeen (H : Type 0) : Type 0 where
  pub room : TableId
  pub rows : Rows H
  pub ready : List (PostSeen H)

module _ {H : Type 0} where
  abbrev pub posts_seen : TableId → Rows H → List (PostSeen H) → PostsSeen H
  posts_seen room rows ready = record { room = room; rows = rows; ready = ready }

  -- each post that was ended and has no pass out waits, and no other one does
  pub record IsSettled (rows : Rows H) (ready : List (PostSeen H)) : Type 0 where
    pub no_other : AllByRecursion (λ e. is_spent e.1 ≡ false) rows
    pub each : AllByRecursion (λ p. is_spent p ≡ true) ready

  abbrev pub if_spent : Option (PostSeen H) → List (PostSeen H)
  if_spent None = []
  if_spent (Some p) = cond (is_spent p) (p ∷ []) []

  -- the rows without the post of a key, if that was ended and has no pass out
  abbrev pub without_spent : Key → Rows H → Rows H
  without_spent key rows = cond (spent_at key rows) (without key rows) rows

  -- the posts with other rows, in which the post of a key may have to wait
  abbrev pub settled : Key → Rows H → PostsSeen H → PostsSeen H
  settled key rows s = posts_seen s.room (without_spent key rows) (s.ready ++ if_spent (post_at key rows))

  -- the post of a key was ended
  abbrev pub ended : Key → PostsSeen H → PostsSeen H
  ended key s = settled key (changed flagged key s.rows) s

  -- passes came back, one after another
  abbrev pub given_back : LentSeen → PostsSeen H → PostsSeen H
  given_back lent s = settled lent.key (returned lent s.rows) s

  abbrev pub all_given_back : List LentSeen → PostsSeen H → PostsSeen H
  all_given_back [] s = s
  all_given_back (lent ∷ lents) s = all_given_back lents (given_back lent s)

  -- the first post of a key among those that wait, and the others
  abbrev pub first_of : Key → List (PostSeen H) → Option (PostSeen H)
  first_of key [] = None
  first_of key (p ∷ ps) = cond (is_key key p.name.key) (Some p) (first_of key ps)

  abbrev pub without_first : Key → List (PostSeen H) → List (PostSeen H)
  without_first key [] = []
  without_first key (p ∷ ps) = cond (is_key key p.name.key) ps (p ∷ without_first key ps)

  abbrev pub or_first : Option (PostSeen H) → Key → List (PostSeen H) → Option (PostSeen H)
  or_first None key ready = first_of key ready
  or_first (Some p) key ready = Some p

  -- the post of a key, under the key or waiting
  abbrev pub held_at : Key → PostsSeen H → Option (PostSeen H)
  held_at key s = or_first (post_at key s.rows) key s.ready

  abbrev pub ready_without : Option (PostSeen H) → Key → List (PostSeen H) → List (PostSeen H)
  ready_without None key ready = without_first key ready
  ready_without (Some p) key ready = ready

  -- the posts without it
  abbrev pub taken_out : Key → PostsSeen H → PostsSeen H
  taken_out key s = posts_seen s.room (without key s.rows) (ready_without (post_at key s.rows) key s.ready)
