-- What a session reads the keys of another one as, whose messages it is given.
use Rattle.std.specs.Prelude.{◌≡◌, false, List, [], ◌∷◌}
use Rattle.std.specs.List.{AllByRecursion}
use Rattle.std.specs.Option.{IfSome}
use Rattle.zs_wire.specs.declared.message.Message.{Message}
use Rattle.zs_wire.specs.declared.message.Message.TheVariants.{DeclareKeyExpr, UndeclareKeyExpr}
use Rattle.zs_events.specs.declared.event.Event.{Event}
use Rattle.zs_events.specs.declared.event.Event.TheVariants.{Net}
use Rattle.zs_model.specs.declared.settings.Settings.{Settings}
use Rattle.zs_model.specs.Entry.{is_closed}
use Rattle.zs_model.specs.HeldKeys.{wire_text}
use Rattle.zs_model.specs.Past.{past_of}
use Rattle.zs_model.specs.Effects.{effects}
use Rattle.zs_model.specs.Received.{messages_of, sent, wire_in, meant_by, spoken_text, AreSpelled}
use Rattle.zs_laws.specs.Spelled.{AllSpelled}

-- the messages that came in, the newest first
abbrev pub given : List Event → List Message
given [] = []
given (Net message ∷ h) = message ∷ given h
given (e ∷ h) = given h

-- those among messages that tell what a number stands for, or that it ends
abbrev pub number_messages : List Message → List Message
number_messages [] = []
number_messages (DeclareKeyExpr number wire ∷ messages) = DeclareKeyExpr number wire ∷ number_messages messages
number_messages (UndeclareKeyExpr number ∷ messages) = UndeclareKeyExpr number ∷ number_messages messages
number_messages (message ∷ messages) = number_messages messages

-- where a session was given all that another one sent of its numbers, in this order, and is open, the key of each message that the other
-- one sends next stands here for the text that it means there
abbrev pub ReceiversReadKeys : Type 0
ReceiversReadKeys =
    (s t : Settings) (h g : List Event) (e : Event) → AreSpelled s → AllSpelled (e ∷ h)
    → number_messages (given g) ≡ number_messages (sent s h) → is_closed (past_of t g) ≡ false
    → AllByRecursion (λ m. IfSome (wire_in m) (λ wire. wire_text (past_of t g) wire ≡ meant_by s (spoken_text (past_of s h) e) m)) (messages_of (effects s h e).effects)
