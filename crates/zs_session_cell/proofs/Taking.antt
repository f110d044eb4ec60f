-- What a cell makes of an event, from what the core and the exchange promise.
use Rattle.std.proofs.Common.{◌≡◌, ℕ, true, List, [], ◌∷◌, ◌++◌, length, map, Option, refl, sym, ap, ◌∙◌, subst}
use Rattle.zs_events.specs.declared.event.Event.{Event}
use Rattle.zs_events.specs.declared.turn.Turn.{Turn}
use Rattle.zs_core.specs.Types.{Settings}
use Rattle.zs_core.specs.Types.{Change}
use Rattle.zs_core.specs.Types.{Decision}
use Rattle.zs_core.specs.World.{World}
use Rattle.zs_core.specs.Changes.{with_change}
use Rattle.zs_core.specs.Plans.{Plans}
use Rattle.zs_posts.specs.Calls.{CallSeen, all_lents}
use Rattle.zs_hands.specs.Answers.{AreOfRoom}
use Rattle.zs_turns.specs.declared.item.Item.{Item}
use Rattle.zs_exchange.specs.Exchange.{ExchangeSeen, Carries, Overdrawn}
use Rattle.zs_exchange.specs.Handlers.{AreBare, AreGates, NoneHeld}
use Rattle.zs_exchange.proofs.Carrying.{carried_room, carried_lents, carried_none, carried_gates, carried_bare}
use Rattle.zs_session_cell.specs.declared.entry.Entry.{Entry}
use Rattle.zs_session_cell.specs.Core.{turn_at, Stepped}
use Rattle.zs_session_cell.specs.Cells.{CellSeen, Takes, IsFull}
use Rattle.zs_session_cell.specs.Journals.{history, IsKept, SessionSeen, Advances, IsOverdrawn}
use Rattle.zs_session_cell.proofs.Core.{plan_previews, plan_steps, step_turn, preview_turn}
use Rattle.zs_session_cell.proofs.Keeping.{kept_more}
use Rattle.zs_session_cell.proofs.Naming.{entry_of, taken_flags}

-- a plan of parts that were taken apart
pub plan_parts : (w : World) (e : Event) (d : Decision) (turn : Turn) (change : Change) → turn ≡ d.turn → change ≡ d.change → Plans w e d → Plans w e (record { turn = turn; change = change })
plan_parts w e d turn change turn_is change_is plans =
    subst (λ (t : Turn). Plans w e (record { turn = t; change = change })) (sym turn_is) (subst (λ (c : Change). Plans w e (record { turn = d.turn; change = c })) (sym change_is) plans)

module _ {H : Type 0} {w : World} {e : Event} {d : Decision} (plans : Plans w e d) where
  pub takes : (handler : Option H) (place : ℕ) (x now : ExchangeSeen H) (calls : List (CallSeen H Item)) (core : World) → core ≡ with_change d.change w → Carries e d.turn handler place x calls now
      → Takes e handler place (record { world = w; exchange = x }) d.turn calls (record { world = core; exchange = now })
  takes handler place x now calls core is carries = record { steps = plan_steps plans core is; refuses = λ r. is ∙ plans.refuses r; carries = carries }

  pub is_full : (handler : Option H) (place : ℕ) (x : ExchangeSeen H) → Overdrawn e d.turn handler place x → IsFull e handler place (record { world = w; exchange = x })
  is_full handler place x drawn = record { turn = d.turn; previews = plan_previews plans; overdrawn = drawn }

module _ {H : Type 0} {e : Event} {handler : Option H} {place : ℕ} {old : CellSeen H} {turn : Turn} {calls : List (CallSeen H Item)} {new : CellSeen H} (t : Takes e handler place old turn calls new) where
  pub takes_lents : AreOfRoom old.exchange.posts.room (all_lents calls)
  takes_lents = carried_lents t.carries

  pub takes_none : NoneHeld handler old.exchange.posts → calls ≡ []
  takes_none none = carried_none t.carries none

  pub takes_gates : NoneHeld handler old.exchange.posts → AreGates new.exchange.posts.rows
  takes_gates none = carried_gates t.carries none

  pub takes_bare : NoneHeld handler old.exchange.posts → AreBare old.exchange.posts.ready → AreBare new.exchange.posts.ready
  takes_bare none all = carried_bare t.carries none all

  pub takes_room : new.exchange.posts.room ≡ old.exchange.posts.room
  takes_room = carried_room t.carries

pub no_calls : {A B : Type 0} (f : A → B) (xs : List A) → map f xs ≡ [] → xs ≡ []
no_calls f [] is = refl
no_calls f (x ∷ xs) is = cc

abbrev pub session_seen : {H : Type 0} → Settings → List Entry → ExchangeSeen H → SessionSeen H
session_seen s journal x = record { settings = s; journal = journal; exchange = x }

module _ {H : Type 0} {e f : Event} {handler : Option H} {place now : ℕ} {old : CellSeen H} (same : e ≡ f) (place_is : place ≡ now) where
  -- the same event, at the same place
  pub takes_at : {turn : Turn} {calls : List (CallSeen H Item)} {new : CellSeen H} → Takes e handler place old turn calls new → Takes f handler now old turn calls new
  takes_at {turn = turn} {calls = calls} {new = new} t = subst (λ (x : Event). Takes x handler now old turn calls new) same (subst (λ (p : ℕ). Takes e handler p old turn calls new) place_is t)

  pub full_at : IsFull e handler place old → IsFull f handler now old
  full_at full = subst (λ (x : Event). IsFull x handler now old) same (subst (λ (p : ℕ). IsFull e handler p old) place_is full)

-- the journal with the entry that was put behind it
pub journal_now : (journal reserved items : List Entry) (e f : Event) (turn copy : Turn) → reserved ≡ journal → items ≡ reserved ++ entry_of f copy ∷ [] → f ≡ e → copy ≡ turn → items ≡ journal ++ entry_of e turn ∷ []
journal_now journal reserved items e f turn copy same is event_is turn_is = is ∙ (λ i. same i ++ entry_of (event_is i) (turn_is i) ∷ [])

module _ {H : Type 0} (s : Settings) (journal items : List Entry) (old : CellSeen H) (e : Event) (handler : Option H) (kept : IsKept old.world s journal old.exchange.posts) where
  pub kept_now : (new : CellSeen H) (turn : Turn) (calls : List (CallSeen H Item)) → items ≡ journal ++ entry_of e turn ∷ [] → Takes e handler (length journal) old turn calls new → IsKept new.world s items new.exchange.posts
  kept_now new turn calls is t =
      subst (λ (xs : List Entry). IsKept new.world s xs new.exchange.posts) (sym is)
      (kept_more old.world new.world s journal (entry_of e turn) old.exchange.posts new.exchange.posts kept t.steps (taken_flags journal e turn handler old.exchange calls new.exchange kept.flags t.carries))

  pub advances : (new : CellSeen H) (turn : Turn) (calls : List (CallSeen H Item)) (seen : SessionSeen H) → session_seen s journal old.exchange ≡ seen → items ≡ journal ++ entry_of e turn ∷ [] → Takes e handler (length journal) old turn calls new
      → Advances e handler seen turn calls (session_seen s items new.exchange)
  advances new turn calls seen view is t =
      subst (λ (x : SessionSeen H). Advances e handler x turn calls (session_seen s items new.exchange)) view
      (record {
        turn_is = step_turn old.world new.world e turn s (history [] journal) t.steps kept.stands;
        journal_is = is;
        carries = t.carries;
        settings_is = refl;
      })

  pub overdrawn_in : (seen : SessionSeen H) → session_seen s journal old.exchange ≡ seen → IsFull e handler (length journal) old → IsOverdrawn e handler seen
  overdrawn_in seen view full =
      subst (λ (x : SessionSeen H). IsOverdrawn e handler x) view
      (subst (λ (turn : Turn). Overdrawn e turn handler (length journal) old.exchange) (preview_turn old.world e full.turn s (history [] journal) full.previews kept.stands) full.overdrawn)
