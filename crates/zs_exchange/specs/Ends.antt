-- Which gates a session gives out.
use Rattle.std.specs.Prelude.{◌≡◌, true, false, [], ◌∷◌, Option, Some, None}
use Rattle.std.specs.List.{AllByRecursion}
use Rattle.atomic_table.specs.Seated.{TableId}
use Rattle.zs_posts.specs.Posts.{PostSeen, is_spent}
use Rattle.zs_posts.specs.Settled.{PostsSeen}

module _ {H : Type 0} where
  -- no post was ended of which no pass is out
  pub record IsIdle (posts : PostsSeen H) : Type 0 where
    pub beside : AllByRecursion (λ e. is_spent e.1 ≡ false) posts.rows
    pub none_waits : posts.ready ≡ []

  -- the first post that waits was given out, with its handler and its gate: it was ended, and no pass of it is out
  pub record GivesOut (old : PostsSeen H) (handler : Option H) (gate : TableId) (new : PostsSeen H) : Type 0 where
    pub post : PostSeen H
    pub first : old ≡ record new { ready = post ∷ new.ready }
    pub handler_is : handler ≡ post.handler
    pub gate_is : gate ≡ post.gate
    pub was_ended : post.ended ≡ true
    pub none_out : post.out ≡ 0

  -- a handler and a gate are those of a post
  abbrev pub AreOf : Option (PostSeen H) → Option H → TableId → Type 0
  AreOf None handler gate = ⊥
  AreOf (Some post) handler gate = (handler ≡ post.handler) × (gate ≡ post.gate)
