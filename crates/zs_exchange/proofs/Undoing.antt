-- What was prepared leaves no trace where it is taken back.
use Rattle.std.proofs.Common.{◌≡◌, ℕ, List, take, Option, sym, ap, ◌∙◌, subst}
use Rattle.std.proofs.Math.Seq.{take-append_seam}
use Rattle.std.specs.List.{AllByRecursion}
use Rattle.zs_wire.specs.declared.message.Message.{Message}
use Rattle.zs_events.specs.declared.event.Event.{Event}
use Rattle.zs_events.specs.declared.turn.Turn.{Turn}
use Rattle.zs_posts.specs.declared.key.Key.{Key}
use Rattle.zs_posts.specs.declared.key.Name.{Name}
use Rattle.zs_posts.specs.declared.call.Wanted.{Wanted}
use Rattle.zs_posts.specs.Lending.{returned_all}
use Rattle.zs_posts.specs.Settled.{PostsSeen, IsSettled, posts_seen}
use Rattle.zs_posts.specs.Calls.{CallSeen, all_lents}
use Rattle.zs_turns.specs.declared.item.Item.{Item}
use Rattle.zs_exchange.specs.Begun.{Begins, closed}
use Rattle.zs_exchange.specs.Exchange.{ExchangeSeen, Prepares, kept_messages}

module _ {H T : Type 0} {name : Option Name} {handler : Option H} {wanted : List (Wanted T)} {first : PostsSeen H} {calls : List (CallSeen H T)} {now : PostsSeen H} (b : Begins name handler wanted first calls now) where
  room_same : now.room ≡ b.opened.room
  room_same = ap (λ s. s.room) b.turn.posts_are

  ready_same : now.ready ≡ b.opened.ready
  ready_same = ap (λ s. s.ready) b.turn.posts_are

  -- the passes come back
  pub returned : (mid : PostsSeen H) → mid ≡ record now { rows = returned_all (all_lents calls) now.rows } → mid ≡ b.opened
  returned mid is = is ∙ (λ i. posts_seen (room_same i) (b.back i) (ready_same i))

  -- and then the post goes
  pub taken_back : (mid new : PostsSeen H) → mid ≡ record now { rows = returned_all (all_lents calls) now.rows } → new ≡ closed name mid → new ≡ first
  taken_back mid new is closes = closes ∙ (ap (closed name) (returned mid is) ∙ b.closes)

  -- what may be taken back
  pub may_settle : IsSettled (returned_all (all_lents calls) now.rows) now.ready
  may_settle = subst (λ ready. IsSettled (returned_all (all_lents calls) now.rows) ready) (sym ready_same) (subst (λ rows. IsSettled rows b.opened.ready) (sym b.back) b.settled)

  pub are_of_room : AllByRecursion (λ l. l.room ≡ now.room) (all_lents calls)
  are_of_room = subst (λ room. AllByRecursion (λ l. l.room ≡ room) (all_lents calls)) (sym room_same) b.turn.of_room

abbrev pub exchange_seen : {H : Type 0} → PostsSeen H → List Message → ExchangeSeen H → ExchangeSeen H
exchange_seen posts outbox x = record x { posts = posts; outbox = outbox }

module _ {H : Type 0} {e : Event} {turn : Turn} {handler : Option H} {place : ℕ} {first : ExchangeSeen H} {name : Option Name} {calls : List (CallSeen H Item)} {before : ℕ} {ends : List Key} {now : ExchangeSeen H} (p : Prepares e turn handler place first name calls before ends now) where
  outbox_back : take before now.outbox ≡ first.outbox
  outbox_back =
      (λ i. take (p.before_is i) ((ap (λ x. x.outbox) p.rest) i)) ∙ take-append_seam first.outbox (kept_messages first.keeps turn.effects)

  -- all of it
  pub prepared_back : (posts : PostsSeen H) (outbox : List Message) → posts ≡ first.posts → outbox ≡ take before now.outbox → exchange_seen posts outbox now ≡ first
  prepared_back posts outbox same is =
      let tag : now.tag ≡ first.tag = ap (λ x. x.tag) p.rest in
      let keeps : now.keeps ≡ first.keeps = ap (λ x. x.keeps) p.rest in
      (λ i. record { posts = same i; outbox = (is ∙ outbox_back) i; tag = tag i; keeps = keeps i })
