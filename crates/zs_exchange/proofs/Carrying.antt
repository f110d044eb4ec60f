-- What was prepared and then finished was carried out.
use Rattle.std.proofs.Common.{◌≡◌, ℕ, List, [], Option, sym, ap, ◌∙◌, subst}
use Rattle.std.specs.Prelude.{is_some}
use Rattle.std.specs.List.{AllByRecursion}
use Rattle.zs_events.specs.declared.event.Event.{Event}
use Rattle.zs_events.specs.declared.turn.Turn.{Turn}
use Rattle.zs_posts.specs.declared.key.Key.{Key}
use Rattle.zs_posts.specs.declared.key.Name.{Name}
use Rattle.zs_posts.specs.declared.call.Wanted.{Wanted}
use Rattle.zs_posts.specs.Settled.{PostsSeen}
use Rattle.zs_posts.specs.Calls.{CallSeen, all_lents}
use Rattle.zs_turns.specs.declared.item.Item.{Item}
use Rattle.zs_turns.specs.Calls.{wanted_of}
use Rattle.zs_turns.specs.Gates.{opened_at, ends_at}
use Rattle.zs_exchange.specs.Begun.{Begun, Begins, ended_all}
use Rattle.zs_exchange.specs.Exchange.{ExchangeSeen, Prepares, Carries, Overdrawn}
use Rattle.zs_exchange.specs.Handlers.{AreBare, AreGates, NoneHeld}
use Rattle.zs_exchange.proofs.Handlers.{ended_gates, ended_bare, begun_calls, begun_gates, begun_bare, none_overdrawn}
use Rattle.zs_exchange.proofs.Rooms.{ended_room, begun_room, begun_lents}

was_begun : {H T : Type 0} {name : Option Name} {handler : Option H} {wanted : List (Wanted T)} {first : PostsSeen H} {calls : List (CallSeen H T)} {now : PostsSeen H} → Begins name handler wanted first calls now → Begun name handler wanted first calls now
was_begun b = record { opened = b.opened; free = b.free; opens = b.opens; turn = b.turn }

module _ {H : Type 0} {e : Event} {turn : Turn} {handler : Option H} {place : ℕ} {first : ExchangeSeen H} {name : Option Name} {calls : List (CallSeen H Item)} {before : ℕ} {ends : List Key} {now : ExchangeSeen H} (p : Prepares e turn handler place first name calls before ends now) where
  pub carried : (new : ExchangeSeen H) → new ≡ record now { posts = ended_all ends now.posts } → Carries e turn handler place first calls new
  carried new is = record {
    between = now.posts;
    begun = subst (λ (n : Option Name). Begun n handler (wanted_of first.tag turn.effects) first.posts calls now.posts) p.name_is (was_begun p.begins);
    rest = is ∙ (λ i. record (p.rest i) { posts = ended_all (p.ends_are i) now.posts });
  }

module _ {H : Type 0} {e : Event} {turn : Turn} {handler : Option H} {place : ℕ} {old : ExchangeSeen H} {calls : List (CallSeen H Item)} {new : ExchangeSeen H} (c : Carries e turn handler place old calls new) where
  pub carried_room : new.posts.room ≡ old.posts.room
  carried_room = ap (λ (x : ExchangeSeen H). x.posts.room) c.rest ∙ (ended_room (ends_at e turn) c.between ∙ begun_room c.begun)

  pub carried_lents : AllByRecursion (λ l. l.room ≡ old.posts.room) (all_lents calls)
  carried_lents = begun_lents c.begun

  pub carried_none : NoneHeld handler old.posts → calls ≡ []
  carried_none none = begun_calls (opened_at (is_some handler) e place turn.answer) handler (wanted_of old.tag turn.effects) old.posts none calls c.between c.begun

  pub carried_gates : NoneHeld handler old.posts → AreGates new.posts.rows
  carried_gates none =
      subst (λ (x : ExchangeSeen H). AreGates x.posts.rows) (sym c.rest)
      (ended_gates (ends_at e turn) c.between (begun_gates (opened_at (is_some handler) e place turn.answer) handler (wanted_of old.tag turn.effects) old.posts none calls c.between c.begun))

  pub carried_bare : NoneHeld handler old.posts → AreBare old.posts.ready → AreBare new.posts.ready
  carried_bare none all =
      let name = opened_at (is_some handler) e place turn.answer in
      let wanted = wanted_of old.tag turn.effects in
      subst (λ (x : ExchangeSeen H). AreBare x.posts.ready) (sym c.rest)
      (ended_bare (ends_at e turn) c.between (begun_gates name handler wanted old.posts none calls c.between c.begun) (begun_bare name handler wanted old.posts none calls c.between c.begun all))

pub none_full : {H : Type 0} (e : Event) (turn : Turn) (handler : Option H) (place : ℕ) (old : ExchangeSeen H) → NoneHeld handler old.posts → Overdrawn e turn handler place old → ⊥
none_full e turn handler place old none = none_overdrawn (opened_at (is_some handler) e place turn.answer) handler (wanted_of old.tag turn.effects) old.posts none
