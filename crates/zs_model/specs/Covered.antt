-- Which subscriptions a receiver of a session's messages knows, and which keys they include.
use Rattle.std.specs.Prelude.{◌≡◌, ℕ, Bool, true, false, ◌==◌, List, [], ◌∷◌, Option, Some, None, if◌then◌else◌}
use Rattle.zs_keys.specs.Matching.{includes}
use Rattle.zs_wire.specs.declared.message.Message.{Message}
use Rattle.zs_wire.specs.declared.message.Message.TheVariants.{DeclareSubscriber, UndeclareSubscriber}
use Rattle.zs_model.specs.Received.{read_as}

-- the text of the subscription of a number, for a receiver of these messages, the newest first: as it was declared last, if that
-- was not ended since
abbrev pub subscription_text : ℕ → List Message → Option (List ℕ)
subscription_text id [] = None
subscription_text id (DeclareSubscriber number wire ∷ before) = if number == id then read_as before wire else subscription_text id before
subscription_text id (UndeclareSubscriber number ∷ before) = if number == id then None else subscription_text id before
subscription_text id (message ∷ before) = subscription_text id before

-- whether each key of this text is one of a subscription on that text, if there is one
abbrev pub covers : List ℕ → Option (List ℕ) → Bool
covers key None = false
covers key (Some text) = includes text key

-- among these messages is a subscription that was not ended and that includes a key
abbrev pub IsCovered : List Message → List ℕ → Type 0
IsCovered messages key = (id : ℕ) × (covers key (subscription_text id messages) ≡ true)
