-- What each of two linked sessions was told of the liveliness tokens of the other.
use Rattle.std.specs.Prelude.{◌≡◌, ℕ, false, ◌==◌, List, [], ◌∷◌, Option, Some, None, option_map, find, if◌then◌else◌}
use Rattle.zs_keys.specs.Key.{undeclared}
use Rattle.zs_wire.specs.declared.message.Message.{Message}
use Rattle.zs_wire.specs.declared.message.Message.TheVariants.{DeclareToken, UndeclareToken}
use Rattle.zs_subscriptions.specs.Ascending.{Ascend}
use Rattle.zs_tables.specs.Types.{RemoteToken}
use Rattle.zs_events.specs.declared.event.Event.{Event}
use Rattle.zs_events.specs.declared.event.Event.TheVariants.{Token, Undeclare}
use Rattle.zs_events.specs.declared.entity_kind.EntityKind.TheVariants.{Token as token_kind}
use Rattle.zs_core.specs.Types.{Settings}
use Rattle.zs_core.specs.Entry.{Entry, is_closed}
use Rattle.zs_core.specs.Past.{past_of}
use Rattle.zs_core.specs.Received.{read_as, sent, AreSpelled}
use Rattle.zs_core.specs.Tokens.{remote_tokens}
use Rattle.zs_delivery.specs.Linked.{Side, LinkLine, other, linked_after}
use Rattle.zs_delivery.specs.Links.{AreOwn, AreSpelledLines}

-- the token of a number that these messages declare, the newest first, to whoever reads them: as it was declared last, if that was not
-- ended since
abbrev pub declared_token : ℕ → List Message → Option RemoteToken
declared_token id [] = None
declared_token id (DeclareToken number wire interest ∷ before) =
    if number == id then option_map (λ text. record { number = number; key = undeclared text }) (read_as before wire) else declared_token id before
declared_token id (UndeclareToken number wire interest ∷ before) = if number == id then None else declared_token id before
declared_token id (message ∷ before) = declared_token id before

-- the text of the token of a number behind an event that was answered this number, on a key of this text: that of the token which it
-- declares, none where it ends it
abbrev pub token_with : ℕ → Event → Option ℕ → Option (List ℕ) → Option (List ℕ) → Option (List ℕ)
token_with id (Token key) (Some number) (Some text) before = if number == id then Some text else before
token_with id (Undeclare token_kind number) drawn text before = if number == id then None else before
token_with id e drawn text before = before

-- the text of the token of a number that accepted events declared and did not end
abbrev pub token_now : ℕ → List Entry → Option (List ℕ)
token_now id [] = None
token_now id (x ∷ past) = token_with id x.event x.number x.text (token_now id past)

-- a token as a receiver has it
abbrev pub told_as : ℕ → List ℕ → RemoteToken
told_as id text = record { number = id; key = undeclared text }

-- a session has of the other's tokens, each once: under each number that which the messages declare, and this is the token that the
-- other one's accepted events declared and did not end
pub record HasTokens (tokens : List RemoteToken) (messages : List Message) (past : List Entry) : Type 0 where
  pub ascend : Ascend (λ token. token.number) tokens
  pub told : (id : ℕ) → find (λ token. token.number == id) tokens ≡ declared_token id messages
  pub declared : (id : ℕ) → declared_token id messages ≡ option_map (told_as id) (token_now id past)

-- so it is with all that the other has sent, where none of it waits and the receiver is open
abbrev pub TellsTokens : Settings → Settings → Side → Side → Type 0
TellsTokens s t from to =
    from.waiting ≡ [] → is_closed (past_of t to.history) ≡ false
    → HasTokens (remote_tokens t (past_of t to.history)) (sent s from.history) (past_of s from.history)

-- both ways
pub record BothTellTokens (s : Settings) (a b : Side) : Type 0 where
  pub forth : TellsTokens s (other s) a b
  pub back : TellsTokens (other s) s b a

-- behind every schedule
abbrev pub RemoteTokensAreDeclared : Type 0
RemoteTokensAreDeclared =
    (s : Settings) (h : List LinkLine) → AreSpelled s → AreOwn h → AreSpelledLines h → BothTellTokens s (linked_after s h).a (linked_after s h).b
