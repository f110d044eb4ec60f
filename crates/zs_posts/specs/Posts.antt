-- The posts of a session, each under its key.
use Rattle.std.specs.Prelude.{◌≡◌, ℕ, ◌+◌, ◌-◌, ◌==◌, Bool, true, false, ◌&&◌, cond, List, [], ◌∷◌, Option, Some, None}
use Rattle.std.specs.Map.{lookup}
use Rattle.std.specs.Option.{option_map_or}
use Rattle.atomic_table.specs.Seated.{TableId}
use Rattle.zs_posts.specs.declared.key.Key.{Key}
use Rattle.zs_posts.specs.declared.key.Name.{Name}
use Rattle.zs_posts.specs.Keys.{is_key}
use Rattle.zs_posts.specs.Passes.{LentSeen}

-- a post: its name, its handler if it has one, whether it was ended, its gate, the room and number of its tag, and how many of its passes are out
pub record PostSeen (H : Type 0) : Type 0 where
  pub name : Name
  pub handler : Option H
  pub ended : Bool
  pub gate : TableId
  pub room : TableId
  pub number : ℕ
  pub out : ℕ

-- posts by key, in the keys' order
abbrev pub Rows : Type 0 → Type 0
Rows H = List (Key × PostSeen H)

module _ {H : Type 0} where
  -- the post of a key
  abbrev pub post_at : Key → Rows H → Option (PostSeen H)
  post_at key rows = lookup (is_key key) rows

  -- the rows with the post of a key changed, if there is one
  abbrev pub changed : (PostSeen H → PostSeen H) → Key → Rows H → Rows H
  changed change key [] = []
  changed change key (e ∷ es) = cond (is_key key e.0) ((e.0, change e.1) ∷ es) (e ∷ changed change key es)

  -- a post with one pass more out, and with one less
  abbrev pub raised : PostSeen H → PostSeen H
  raised p = record p { out = p.out + 1 }

  abbrev pub lowered : PostSeen H → PostSeen H
  lowered p = record p { out = p.out - 1 }

  -- a post that gets a pass back: it takes back its own
  abbrev pub lowered_by : LentSeen → PostSeen H → PostSeen H
  lowered_by lent p = cond (p.number == lent.number) (lowered p) p

  -- a post that was ended
  abbrev pub flagged : PostSeen H → PostSeen H
  flagged p = record p { ended = true }

  -- it was ended and no pass is out
  abbrev pub is_spent : PostSeen H → Bool
  is_spent p = p.ended && (p.out == 0)

-- the posts of a room
pub record MapSeen (H : Type 0) : Type 0 where
  pub room : TableId
  pub rows : Rows H

module _ {H : Type 0} where
  -- the entry's tag is of the room
  abbrev pub IsOfRoom : TableId → Key × PostSeen H → Type 0
  IsOfRoom room e = e.1.room ≡ room

  -- the key has a post that was ended and of which no pass is out
  abbrev pub spent_at : Key → Rows H → Bool
  spent_at key rows = option_map_or is_spent (post_at key rows) false
