-- What the first events of two sessions with stores send.
use Rattle.std.proofs.Common.{◌≡◌, ℕ, List, [], ◌∷◌, Bool, true, false, Option, Some, None, refl, sym, ◌∙◌, subst}
use Rattle.std.specs.Prelude.{if◌then◌else◌}
use Rattle.std.specs.List.{AllByRecursion}
use Rattle.std.specs.Str.{chars}
use Rattle.zs_wire.specs.declared.message.Message.{Message}
use Rattle.zs_wire.specs.declared.message.Message.TheVariants.{DeclareSubscriber}
use Rattle.zs_events.specs.declared.event.Event.{Event}
use Rattle.zs_events.specs.declared.turn.Answer.TheVariants.{Ok as accepted, Refused}
use Rattle.zs_events.specs.declared.turn.Refusal.{Refusal}
use Rattle.zs_events.specs.Turn.{answered as answered_turn}
use Rattle.zs_model.specs.declared.settings.Settings.{Settings}
use Rattle.zs_model.specs.Causes.{refusal_of}
use Rattle.zs_model.specs.Entry.{is_closed}
use Rattle.zs_model.specs.Groups.{joins_first, sends_if}
use Rattle.zs_model.specs.Sends.{group_wire}
use Rattle.zs_tables.specs.Types.{Subscribers}
use Rattle.zs_events.specs.declared.key_arg.KeyArg.TheVariants.{Text}
use Rattle.zs_model.specs.HeldKeys.{named_text}
use Rattle.zs_model.specs.Past.{entry_of, past_of}
use Rattle.zs_model.specs.Received.{messages_of}
use Rattle.zs_model.specs.Effects.{Known, known_of, key_wire, effects_behind, effects}
use Rattle.zs_model.proofs.Filters.{all_append}
use Rattle.zs_laws.proofs.SentMessages.{told_by_event}
use Rattle.zs_delivery.proofs.TokenMessages.{messages_are}
use Rattle.zs_delivery.specs.declared.side.LinkSide.{LinkSide}
use Rattle.zs_delivery.specs.declared.side.LinkSide.TheVariants.{A, B}
use Rattle.zs_delivery.specs.Linked.{other, sent_at, linked_after}
use Rattle.zs_replicas.specs.Replicas.{keeping, answering, first_links}
use Rattle.zs_replica_gets.specs.Steps.{side_of}
use Rattle.zs_replica_gets.proofs.Turns.{IsPlain}
use Rattle.zs_replica_gets.proofs.Runs.{same_sent}
use Rattle.zs_replica_gets.proofs.Moving.{answer_refused}

-- what the first events send
plain_if : (b : Bool) (m : Message) → IsPlain m → AllByRecursion IsPlain (messages_of (sends_if b m))
plain_if true m plain = (plain, tt)
plain_if false m plain = tt

plain_keeping : (keys : List ℕ) (known : Known) (number : Option ℕ) (text : Option (List ℕ)) → AllByRecursion IsPlain (told_by_event known number text (keeping keys))
plain_keeping keys known None None = tt
plain_keeping keys known None (Some text) = tt
plain_keeping keys known (Some number) None = tt
plain_keeping keys known (Some number) (Some text) =
    plain_if (joins_first (known.company Subscribers) (record { id = number; is_announced = true; text = text }))
    (DeclareSubscriber number (group_wire (known.company Subscribers).aggregates text (key_wire known.keys text (Text (chars keys))))) tt

plain_answering : (keys : List ℕ) (known : Known) (number : Option ℕ) (text : Option (List ℕ)) → AllByRecursion IsPlain (told_by_event known number text (answering keys))
plain_answering keys known None None = tt
plain_answering keys known None (Some text) = tt
plain_answering keys known (Some number) None = tt
plain_answering keys known (Some number) (Some text) = (tt, tt)

plain_turn : (s : Settings) (h : List Event) (e : Event) → ((known : Known) (number : Option ℕ) (text : Option (List ℕ)) → AllByRecursion IsPlain (told_by_event known number text e))
    → AllByRecursion IsPlain (sent_at s h e)
plain_turn s h e plain = subst (AllByRecursion IsPlain) (sym (same_sent s h e)) (go (is_closed (past_of s h)) (refusal_of s (past_of s h) e))
  where
    go : (c : Bool) (o : Option Refusal)
        → AllByRecursion IsPlain (messages_of (if c then answered_turn o None [] else answered_turn o (entry_of s (past_of s h) e).number (effects_behind s (past_of s h) e)).effects)
    go true (Some refusal) = tt
    go true None = tt
    go false (Some refusal) = tt
    go false None =
        subst (AllByRecursion IsPlain) (sym (messages_are s (past_of s h) e)) (plain (known_of s (past_of s h)) (entry_of s (past_of s h) e).number (named_text (past_of s h) e))

pub plain_first : (s : Settings) (keys : List ℕ) (side : LinkSide) → AllByRecursion IsPlain (side_of side (linked_after s (first_links keys))).waiting
plain_first s keys A =
    all_append IsPlain (sent_at s [] (keeping keys)) (sent_at s (keeping keys ∷ []) (answering keys)) (plain_turn s [] (keeping keys) (plain_keeping keys))
    (plain_turn s (keeping keys ∷ []) (answering keys) (plain_answering keys))
plain_first s keys B =
    all_append IsPlain (sent_at (other s) [] (keeping keys)) (sent_at (other s) (keeping keys ∷ []) (answering keys)) (plain_turn (other s) [] (keeping keys) (plain_keeping keys))
    (plain_turn (other s) (keeping keys ∷ []) (answering keys) (plain_answering keys))

-- an event that was accepted was not refused
pub unrefused : (s : Settings) (h : List Event) (e : Event) (number : Option ℕ) → (effects s h e).answer ≡ accepted number → refusal_of s (past_of s h) e ≡ None
unrefused s h e number answer = go (refusal_of s (past_of s h) e) refl
  where
    go : (o : Option Refusal) → refusal_of s (past_of s h) e ≡ o → refusal_of s (past_of s h) e ≡ None
    go None is = is
    go (Some refusal) is = absurd (let never : accepted number ≡ Refused refusal = sym answer ∙ answer_refused s h e refusal is in cc)
