-- The room of a session's gates stays, and all passes are of it.
use Rattle.std.proofs.Common.{◌≡◌, List, [], ◌∷◌, Option, Some, None, refl, ap, ◌∙◌, subst}
use Rattle.std.specs.List.{AllByRecursion}
use Rattle.atomic_table.specs.Seated.{TableId}
use Rattle.zs_posts.specs.declared.key.Key.{Key}
use Rattle.zs_posts.specs.declared.key.Name.{Name}
use Rattle.zs_posts.specs.declared.call.Wanted.{Wanted}
use Rattle.zs_posts.specs.Passes.{LentSeen}
use Rattle.zs_posts.specs.Calls.{CallSeen, all_lents}
use Rattle.zs_posts.specs.Settled.{PostsSeen, ended, given_back, all_given_back}
use Rattle.zs_exchange.specs.Begun.{Opens, Begun, ended_all}

module _ {H : Type 0} where
  opened_room : (name : Option Name) (handler : Option H) (old opened : PostsSeen H) → Opens name handler old opened → opened.room ≡ old.room
  opened_room None handler old opened is = ap (λ (s : PostsSeen H). s.room) is
  opened_room (Some name) handler old opened is = ap (λ (s : PostsSeen H). s.room) is.2

  pub ended_room : (keys : List Key) (posts : PostsSeen H) → (ended_all keys posts).room ≡ posts.room
  ended_room [] posts = refl
  ended_room (key ∷ keys) posts = ended_room keys (ended key posts)

  pub given_room : (lents : List LentSeen) (posts : PostsSeen H) → (all_given_back lents posts).room ≡ posts.room
  given_room [] posts = refl
  given_room (lent ∷ lents) posts = given_room lents (given_back lent posts)

module _ {H T : Type 0} {name : Option Name} {handler : Option H} {wanted : List (Wanted T)} {old : PostsSeen H} {calls : List (CallSeen H T)} {new : PostsSeen H} (b : Begun name handler wanted old calls new) where
  first_room : b.opened.room ≡ old.room
  first_room = opened_room name handler old b.opened b.opens

  pub begun_room : new.room ≡ old.room
  begun_room = ap (λ (s : PostsSeen H). s.room) b.turn.posts_are ∙ first_room

  pub begun_lents : AllByRecursion (λ l. l.room ≡ old.room) (all_lents calls)
  begun_lents = subst (λ (room : TableId). AllByRecursion (λ l. l.room ≡ room) (all_lents calls)) first_room b.turn.of_room
