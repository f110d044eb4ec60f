-- What a decision makes of the tables and of the past, put together once: nothing here names a kind of event.
use Rattle.std.proofs.Common.{◌≡◌, List, [], ◌∷◌, Bool, true, false, Option, Some, None, refl}
use Rattle.std.specs.Prelude.{ℕ, if◌then◌else◌}
use Rattle.zs_events.specs.declared.event.Event.{Event}
use Rattle.zs_world.specs.declared.change.Change.{Change}
use Rattle.zs_world.specs.declared.change.Change.TheVariants.{Nothing}
use Rattle.zs_world.specs.declared.change.Decision.{Decision}
use Rattle.zs_events.specs.declared.turn.Effect.{Effect}
use Rattle.zs_events.specs.declared.turn.Refusal.{Refusal}
use Rattle.zs_world.specs.World.{World}
use Rattle.zs_model.specs.Entry.{Entry}
use Rattle.zs_model.specs.Past.{with_entry}
use Rattle.zs_world.specs.Changes.{change_for}
use Rattle.zs_world.specs.Decisions.{cause, open_cause, closed_cause, number_for, text_for, effects_of, decision_of, open_decision, decision}

-- an event with what the tables resolve for it
abbrev pub entry_for : World → Event → Entry
entry_for w e = record { number = number_for w e; text = text_for w e; event = e }

-- the past with an event behind it, by the tables
abbrev pub past_with_by : World → Event → List Entry → List Entry
past_with_by w e past = with_entry (cause w e) w.closed (entry_for w e) past

-- a decision is a refusal, or nothing behind the close, or it is made in an open session, with the past
pub cases : (w : World) (e : Event) (past : List Entry) (P : Decision → List Entry → Type 0)
    → ((refusal : Refusal) (number : Option ℕ) (fx : List Effect) (c : Change) → P (decision_of (Some refusal) number fx c) past)
    → (w.closed ≡ true → P (decision_of None None [] Nothing) past)
    → (w.closed ≡ false → open_cause w e ≡ None → P (decision_of None (number_for w e) (effects_of w e) (change_for w e)) (entry_for w e ∷ past))
    → P (decision w e) (past_with_by w e past)
cases w e past P refused shut on = go w.closed refl
  where
    by_shut : (o : Option Refusal) → w.closed ≡ true → P (decision_of o None [] Nothing) (with_entry o true (entry_for w e) past)
    by_shut (Some refusal) c = refused refusal None [] Nothing
    by_shut None c = shut c

    by_open : (o : Option Refusal) → open_cause w e ≡ o → w.closed ≡ false
        → P (decision_of o (number_for w e) (effects_of w e) (change_for w e)) (with_entry o false (entry_for w e) past)
    by_open (Some refusal) k c = refused refusal (number_for w e) (effects_of w e) (change_for w e)
    by_open None k c = on c k

    go : (b : Bool) → w.closed ≡ b
        → P (if b then decision_of (closed_cause e) None [] Nothing else open_decision w e)
        (with_entry (if b then closed_cause e else open_cause w e) b (entry_for w e) past)
    go true c = by_shut (closed_cause e) c
    go false c = by_open (open_cause w e) refl c
