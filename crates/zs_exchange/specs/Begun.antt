-- What an event makes of the posts of a session.
use Rattle.std.specs.Prelude.{◌≡◌, true, List, [], ◌∷◌, Option, Some, None}
use Rattle.zs_posts.specs.declared.key.Key.{Key}
use Rattle.zs_posts.specs.declared.key.Name.{Name}
use Rattle.zs_posts.specs.declared.call.Wanted.{Wanted}
use Rattle.zs_posts.specs.Posts.{post_at}
use Rattle.zs_posts.specs.Settled.{PostsSeen, IsSettled, ended, taken_out}
use Rattle.zs_posts.specs.Lending.{is_overdrawn, returned_all}
use Rattle.zs_posts.specs.Calls.{CallSeen, all_lents, turn_keys}
use Rattle.zs_posts.specs.Turns.{IsTurn, IsOpened}

module _ {H : Type 0} where
  -- a post was opened, if there is a name for it
  abbrev pub Opens : Option Name → Option H → PostsSeen H → PostsSeen H → Type 0
  Opens None handler old new = new ≡ old
  Opens (Some name) handler old new = IsOpened name handler old new

  -- there is no post under its key yet
  abbrev pub IsFree : Option Name → PostsSeen H → Type 0
  IsFree None posts = Unit {0}
  IsFree (Some name) posts = post_at name.key posts.rows ≡ None

  -- the posts without it
  abbrev pub closed : Option Name → PostsSeen H → PostsSeen H
  closed None posts = posts
  closed (Some name) posts = taken_out name.key posts

  -- the posts of keys were ended, one after another
  abbrev pub ended_all : List Key → PostsSeen H → PostsSeen H
  ended_all [] posts = posts
  ended_all (key ∷ keys) posts = ended_all keys (ended key posts)

module _ {H T : Type 0} where
  -- a post was opened, if there is a name for it, and then the calls of items were lent their passes
  pub record Begun (name : Option Name) (handler : Option H) (wanted : List (Wanted T)) (old : PostsSeen H) (calls : List (CallSeen H T)) (new : PostsSeen H) : Type 0 where
    pub opened : PostsSeen H
    pub free : IsFree name old
    pub opens : Opens name handler old opened
    pub turn : IsTurn wanted opened calls new

  -- the same, with what takes it back
  pub record Begins (name : Option Name) (handler : Option H) (wanted : List (Wanted T)) (old : PostsSeen H) (calls : List (CallSeen H T)) (new : PostsSeen H) : Type 0 where
    pub opened : PostsSeen H
    pub free : IsFree name old
    pub opens : Opens name handler old opened
    pub turn : IsTurn wanted opened calls new
    pub closes : closed name opened ≡ old
    pub settled : IsSettled opened.rows opened.ready
    pub back : returned_all (all_lents calls) new.rows ≡ opened.rows

  -- with that post some gate has fewer passes left than the calls need
  pub record Overdraws (name : Option Name) (handler : Option H) (wanted : List (Wanted T)) (old : PostsSeen H) : Type 0 where
    pub opened : PostsSeen H
    pub opens : Opens name handler old opened
    pub drawn : is_overdrawn (turn_keys wanted opened.rows) opened.rows ≡ true
