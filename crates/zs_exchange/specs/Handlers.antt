-- Whether a session holds a handler.
use Rattle.std.specs.Prelude.{◌≡◌, List, Option, None}
use Rattle.std.specs.List.{AllByRecursion}
use Rattle.zs_posts.specs.Posts.{PostSeen, Rows}
use Rattle.zs_posts.specs.Settled.{PostsSeen}

module _ {H : Type 0} where
  -- no post under a key has a handler
  abbrev pub AreGates : Rows H → Type 0
  AreGates rows = AllByRecursion (λ e. e.1.handler ≡ None) rows

  -- no post of those that wait to be given out has a handler
  abbrev pub AreBare : List (PostSeen H) → Type 0
  AreBare posts = AllByRecursion (λ p. p.handler ≡ None) posts

  -- no handler is held, and none came with an event
  pub record NoneHeld (handler : Option H) (posts : PostsSeen H) : Type 0 where
    pub came : handler ≡ None
    pub held : AreGates posts.rows
