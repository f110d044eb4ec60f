-- Tokens are sent.
use Rattle.std.proofs.Common.{◌≡◌, ℕ, List, [], ◌∷◌, ◌++◌, Bool, true, false, Option, Some, None, refl, ◌∙◌, ap}
use Rattle.std.specs.Prelude.{if◌then◌else◌}
use Rattle.zs_wire.specs.declared.message.Message.{Message}
use Rattle.zs_events.specs.declared.event.Event.{Event}
use Rattle.zs_events.specs.declared.event.Event.TheVariants.{Token, Undeclare}
use Rattle.zs_events.specs.declared.entity_kind.EntityKind.TheVariants.{Token as token_kind}
use Rattle.zs_events.specs.declared.key_arg.KeyArg.TheVariants.{Text}
use Rattle.zs_events.specs.declared.turn.Answer.{Answer}
use Rattle.zs_events.specs.declared.turn.Answer.TheVariants.{Ok as accepted}
use Rattle.zs_events.specs.declared.turn.Effect.{Effect}
use Rattle.zs_events.specs.declared.turn.Effect.TheVariants.{Send}
use Rattle.zs_events.specs.declared.turn.Refusal.{Refusal}
use Rattle.zs_events.specs.declared.turn.Turn.{Turn}
use Rattle.zs_events.specs.Turn.{answered}
use Rattle.zs_core.specs.Types.{Settings}
use Rattle.zs_core.specs.Entry.{is_closed}
use Rattle.zs_core.specs.HeldKeys.{named_text}
use Rattle.zs_core.specs.Causes.{refusal_of}
use Rattle.zs_core.specs.Counters.{next_entity}
use Rattle.zs_core.specs.Past.{entry_of, past_of}
use Rattle.zs_core.specs.Matching.{listener_effects}
use Rattle.zs_core.specs.Effects.{known_of, effects_on, effects}
use Rattle.zs_core.specs.Received.{messages_of}
use Rattle.zs_delivery.specs.Delivery.{hand_overs}
use Rattle.zs_outgoing.specs.Tokens.{SendsAlone, IsTaken, TokensAreSent}
use Rattle.zs_outgoing.proofs.Quiet.{AreQuiet, quiet_listeners}

abbrev made : Answer → List Effect → Turn
made answer fx = record { answer = answer; effects = fx }

-- the turn of an event that sends a message and does nothing else
alone : (s : Settings) (h : List Event) (e : Event) (number : Option ℕ) (message : Message) → IsTaken s h e
    → (entry_of s (past_of s h) e).number ≡ number
    → effects_on (known_of s (past_of s h)) number (named_text (past_of s h) e) e ≡ Send message ∷ []
    → SendsAlone s h e number message
alone s h e number message taken numbered fx =
    let past = past_of s h in
    let heard = listener_effects past (entry_of s past e) in
    let quiet : AreQuiet heard = quiet_listeners past (entry_of s past e) in
    let turn : effects s h e ≡ record { answer = accepted number; effects = Send message ∷ heard } =
    turned (is_closed past) (refusal_of s past e) (entry_of s past e).number taken.unshut taken.accepted numbered
    ∙ ap (λ (own : List Effect). made (accepted number) (own ++ heard)) fx in
    record {
      answer = ap (λ (t : Turn). t.answer) turn;
      sent = ap (λ (t : Turn). messages_of t.effects) turn ∙ ap (λ (ms : List Message). message ∷ ms) quiet.sends_nothing;
      silent = ap (λ (t : Turn). hand_overs t.effects) turn ∙ quiet.hands_nothing;
    }
  where
    turned : (c : Bool) (o : Option Refusal) (n : Option ℕ) → c ≡ false → o ≡ None → n ≡ number
        → (if c then answered o None [] else answered o n (effects_on (known_of s (past_of s h)) n (named_text (past_of s h) e) e ++ listener_effects (past_of s h) (entry_of s (past_of s h) e)))
        ≡ record { answer = accepted number; effects = effects_on (known_of s (past_of s h)) number (named_text (past_of s h) e) e ++ listener_effects (past_of s h) (entry_of s (past_of s h) e) }
    turned true o n closed none same = absurd (cc)
    turned false (Some refusal) n closed none same = absurd (cc)
    turned false None n closed none same =
        ap (λ (m : Option ℕ). answered None m (effects_on (known_of s (past_of s h)) m (named_text (past_of s h) e) e ++ listener_effects (past_of s h) (entry_of s (past_of s h) e))) same

pub tokens_sent : TokensAreSent
tokens_sent = record {
  declared = λ s h text taken. (next_entity s (past_of s h), alone s h (Token (Text text)) (Some (next_entity s (past_of s h))) _ taken refl refl);
  ended = λ s h number taken. alone s h (Undeclare token_kind number) None _ taken refl refl;
}
