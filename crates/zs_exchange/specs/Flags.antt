-- Whether posts were ended exactly where their keys were named for it.
use Rattle.std.specs.Prelude.{◌≡◌, ℕ, ◌≤◌, Bool, true, false, [], ◌∷◌}
use Rattle.std.specs.List.{AllByRecursion}
use Rattle.zs_posts.specs.declared.key.Key.{Key}
use Rattle.zs_posts.specs.Keys.{is_key}
use Rattle.zs_posts.specs.Posts.{PostSeen, Rows}
use Rattle.zs_posts.specs.Settled.{PostsSeen}

module _ {H : Type 0} where
  -- a post was opened at a place up to the last, and it was ended exactly where its key was named since that place
  pub record IsFlagged (named : Key → ℕ → Bool) (last : ℕ) (p : PostSeen H) : Type 0 where
    pub within : p.name.place ≤ last
    pub marked : p.ended ≡ named p.name.key p.name.place

  -- no two posts are under one key
  abbrev pub AreApart : Rows H → Type 0
  AreApart [] = Unit {0}
  AreApart (e ∷ rows) = AllByRecursion (λ x. is_key e.0 x.0 ≡ false) rows × AreApart rows

  -- all posts, each under the key of its name: and those that wait were ended
  pub record AreFlagged (named : Key → ℕ → Bool) (last : ℕ) (posts : PostsSeen H) : Type 0 where
    pub apart : AreApart posts.rows
    pub own : AllByRecursion (λ e. e.1.name.key ≡ e.0) posts.rows
    pub flags : AllByRecursion (λ e. IsFlagged named last e.1) posts.rows
    pub waiting : AllByRecursion (IsFlagged named last) posts.ready
    pub were_ended : AllByRecursion (λ p. p.ended ≡ true) posts.ready
