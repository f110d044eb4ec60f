-- What is sent of liveliness tokens.
use Rattle.std.specs.Prelude.{◌≡◌, ℕ, false, List, [], ◌∷◌, Option, None, Some}
use Rattle.std.specs.Str.{encode_utf8_all}
use Rattle.zs_wire.specs.declared.message.Message.{Message}
use Rattle.zs_wire.specs.declared.message.Message.TheVariants.{DeclareToken, UndeclareToken}
use Rattle.zs_events.specs.declared.event.Event.{Event}
use Rattle.zs_events.specs.declared.event.Event.TheVariants.{Token, Undeclare}
use Rattle.zs_events.specs.declared.entity_kind.EntityKind.TheVariants.{Token as token_kind}
use Rattle.zs_events.specs.declared.key_arg.KeyArg.TheVariants.{Text}
use Rattle.zs_events.specs.declared.turn.Answer.TheVariants.{Ok as accepted}
use Rattle.zs_core.specs.Types.{Settings}
use Rattle.zs_core.specs.Entry.{is_closed}
use Rattle.zs_core.specs.Causes.{refusal_of}
use Rattle.zs_core.specs.Past.{past_of}
use Rattle.zs_core.specs.Sends.{full_wire}
use Rattle.zs_core.specs.Effects.{effects}
use Rattle.zs_core.specs.Received.{messages_of}
use Rattle.zs_delivery.specs.Delivery.{hand_overs}

-- an event is answered this number, sends this message alone, and hands nothing over
pub record SendsAlone (s : Settings) (h : List Event) (e : Event) (number : Option ℕ) (message : Message) : Type 0 where
  pub answer : (effects s h e).answer ≡ accepted number
  pub sent : messages_of (effects s h e).effects ≡ message ∷ []
  pub silent : hand_overs (effects s h e).effects ≡ []

-- a session takes an event: it is open, and nothing refuses it
pub record IsTaken (s : Settings) (h : List Event) (e : Event) : Type 0 where
  pub unshut : is_closed (past_of s h) ≡ false
  pub accepted : refusal_of s (past_of s h) e ≡ None

-- a token on a text is sent with its number and its whole key, and its end with that number
pub record TokensAreSent : Type 0 where
  pub declared : (s : Settings) (h : List Event) (text : List ℕ) → IsTaken s h (Token (Text text))
      → (number : ℕ) × SendsAlone s h (Token (Text text)) (Some number) (DeclareToken number (full_wire (encode_utf8_all text)) None)
  pub ended : (s : Settings) (h : List Event) (number : ℕ) → IsTaken s h (Undeclare token_kind number)
      → SendsAlone s h (Undeclare token_kind number) None (UndeclareToken number None None)
