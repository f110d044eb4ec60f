-- The posts that a cell without handlers gives out.
use Rattle.std.proofs.Common.{◌≡◌, ◌<◌, ◌∷◌, Option, None, Some, suc, length, option_map, refl, sym, ◌∙◌, ap, subst, arith}
use Rattle.atomic_table.specs.Seated.{TableId}
use Rattle.zs_posts.specs.Settled.{PostsSeen}
use Rattle.zs_exchange.specs.Ends.{GivesOut}
use Rattle.zs_exchange.specs.Handlers.{AreBare}

-- where a post that is given out has no handler, there is none to be told
pub none_to_tell : {A B : Type 0} (f : A → B) (o : Option A) → option_map f o ≡ None → o ≡ None
none_to_tell f None is = refl
none_to_tell f (Some x) is = cc

module _ {H : Type 0} where
  -- the first of the posts that wait is given out
  pub bare_given : (old new : PostsSeen H) (handler : Option H) (gate : TableId) → GivesOut old handler gate new → AreBare old.ready → handler ≡ None
  bare_given old new handler gate out bare =
      let all : AreBare (out.post ∷ new.ready) = subst (λ (posts : PostsSeen H). AreBare posts.ready) out.first bare in
      out.handler_is ∙ all.0

  pub bare_left : (old new : PostsSeen H) (handler : Option H) (gate : TableId) → GivesOut old handler gate new → AreBare old.ready → AreBare new.ready
  bare_left old new handler gate out bare =
      let all : AreBare (out.post ∷ new.ready) = subst (λ (posts : PostsSeen H). AreBare posts.ready) out.first bare in
      all.1

  pub rows_left : (old new : PostsSeen H) (handler : Option H) (gate : TableId) → GivesOut old handler gate new → new.rows ≡ old.rows
  rows_left old new handler gate out = sym (ap (λ (posts : PostsSeen H). posts.rows) out.first)

  pub fewer_left : (old new : PostsSeen H) (handler : Option H) (gate : TableId) → GivesOut old handler gate new → length new.ready < length old.ready
  fewer_left old new handler gate out =
      let more : length old.ready ≡ suc (length new.ready) = ap (λ (posts : PostsSeen H). length posts.ready) out.first in
      omega arith
