-- What an event sends of tokens: nothing, unless it declares one or ends one.
use Rattle.std.proofs.Common.{◌≡◌, ℕ, List, [], ◌∷◌, ◌++◌, Bool, true, false, Option, Some, None, refl, ◌∙◌, ap}
use Rattle.std.specs.List.{AllByRecursion}
use mathlib.Core.List.{append-nil}
use Rattle.zs_wire.specs.declared.message.Message.{Message}
use Rattle.zs_wire.specs.declared.message.Message.TheVariants.{DeclareToken, UndeclareToken}
use Rattle.zs_query.specs.Types.{QueryValue}
use Rattle.zs_events.specs.declared.event.Event.{Event}
use Rattle.zs_events.specs.declared.event.Event.TheVariants.{Undeclare, Token}
use Rattle.zs_events.specs.declared.entity_kind.EntityKind.TheVariants.{Token as token_sort}
use Rattle.zs_events.specs.declared.key_arg.KeyArg.{KeyArg}
use Rattle.zs_events.specs.Kinds.{NamedKey, ToGets, NoGet, Asks, AsksBy, Answers, EndsSide, Reaches, EndsQuerier, Cancels, EndsAll, row_of}
use Rattle.zs_core.specs.Types.{Settings}
use Rattle.zs_core.specs.Entry.{Entry}
use Rattle.zs_core.specs.HeldKeys.{named_text}
use Rattle.zs_core.specs.Past.{entry_of}
use Rattle.zs_core.specs.Sends.{OwnKeys, wire_form, declaration_of, sends_of}
use Rattle.zs_core.specs.GetEffects.{request_effects}
use Rattle.zs_core.specs.Matching.{listener_effects}
use Rattle.zs_core.specs.Effects.{Known, known_of, to_gets_for, draws_of, answering, entity_sends, effects_on, effects_behind}
use Rattle.zs_core.specs.Received.{messages_of, sent_behind}
use Rattle.zs_laws.proofs.SentMessages.{value_cases, told_beside, told_by_event, asked_by, answered_by, all_sends}
use Rattle.zs_laws.proofs.Reading.{request_cases}
use Rattle.zs_delivery.specs.Tokens.{declared_token}
use Rattle.zs_delivery.proofs.Handing.{sends_append, quiet_listeners}
use Rattle.zs_laws.proofs.Sends.{Announced, AToken, announcement, announced_wire, Retracted, OfToken, retraction, announced, retracted, entity_cases, sends_cases}

-- whether a message declares a token or ends one
abbrev pub tells_token : Message → Bool
tells_token (DeclareToken id wire interest) = true
tells_token (UndeclareToken id wire interest) = true
tells_token message = false

abbrev pub TellsNone : Message → Type 0
TellsNone message = tells_token message ≡ false

abbrev pub TellNone : List Message → Type 0
TellNone messages = AllByRecursion TellsNone messages

none_append : (xs ys : List Message) → TellNone xs → TellNone ys → TellNone (xs ++ ys)
none_append [] ys first second = second
none_append (x ∷ xs) ys first second = (first.0, none_append xs ys first.1 second)

sends_none : (known : Known) (number : Option ℕ) (text : Option (List ℕ)) (e : Event) → TellNone (messages_of (sends_of known.keys known.pubs number text e))
sends_none known number text e =
    sends_cases (λ fx. TellNone (messages_of fx)) tt known.keys known.pubs number text e
    (λ n t drew named. (refl, tt)) (λ n. (refl, tt)) (refl, tt) (λ t c named is sent. (refl, tt))

-- whether an event declares a token or ends one
abbrev pub of_token : Event → Bool
of_token (Token key) = true
of_token (Undeclare token_sort id) = true
of_token e = false

token_begun : (e : Event) → of_token e ≡ false → announced e ≡ Some AToken → ⊥
token_begun (Token key) other is = cc
token_begun e other is = cc

token_ended : (e : Event) → of_token e ≡ false → retracted e ≡ Some OfToken → ⊥
token_ended (Undeclare token_sort id) other is = cc
token_ended e other is = cc

entity_none : (known : Known) (number : Option ℕ) (text : Option (List ℕ)) (e : Event) → of_token e ≡ false → TellNone (messages_of (entity_sends known e number text))
entity_none known number text e other = entity_cases (λ fx. TellNone (messages_of fx)) tt known e number text begun ended
  where
    begun : (what : Announced) (id : ℕ) (t : List ℕ) (key : KeyArg) → announced e ≡ Some what → text ≡ Some t → TellNone (announcement what id (announced_wire known what t key) ∷ [])
    begun AToken id t key is named = absurd (token_begun e other is)
    begun what id t key is named = (refl, tt)

    ended : (what : Retracted) (id : ℕ) → retracted e ≡ Some what → TellNone (retraction what id ∷ [])
    ended OfToken id is = absurd (token_ended e other is)
    ended what id is = (refl, tt)

asked_none : (default : ℕ) (k : OwnKeys) (key : NamedKey) (values : List QueryValue) (number : Option ℕ) (text : Option (List ℕ)) (to : ToGets)
    → TellNone (messages_of (request_effects default k key values number text to))
asked_none default k key values (Some number) (Some text) (Asks q) =
    request_cases TellNone tt default (wire_form k text (declaration_of k text key)) number q values (refl, tt)
asked_none default k key values (Some number) None (Asks q) = tt
asked_none default k key values None text (Asks q) = tt
asked_none default k key values number text NoGet = tt
asked_none default k key values number text (AsksBy id q) = tt
asked_none default k key values number text (Answers response) = tt
asked_none default k key values number text (EndsSide rid) = tt
asked_none default k key values number text (Reaches moment) = tt
asked_none default k key values number text (EndsQuerier id) = tt
asked_none default k key values number text (Cancels token) = tt
asked_none default k key values number text EndsAll = tt

-- an event that neither declares a token nor ends one sends nothing of tokens
pub event_none : (known : Known) (number : Option ℕ) (text : Option (List ℕ)) (e : Event) → of_token e ≡ false → TellNone (told_by_event known number text e)
event_none known number text e other =
    none_append (asked_by known number text e) (answered_by known number text e ++ told_beside known number text e)
    (asked_none known.timeout known.keys (row_of e).key (draws_of known number text e) number text (to_gets_for known e))
    (none_append (answered_by known number text e) (told_beside known number text e)
    (value_cases TellNone tt (λ r. (refl, tt)) (λ rid. (refl, tt)) (answering known) (row_of e).key (draws_of known number text e) text (row_of e).to_values)
    (none_append (messages_of (sends_of known.keys known.pubs number text e)) (messages_of (entity_sends known e number text))
    (sends_none known number text e) (entity_none known number text e other)))

-- then what messages declare of tokens stays as it was
one_silent : (id : ℕ) (m : Message) (before : List Message) → TellsNone m → declared_token id (m ∷ before) ≡ declared_token id before
one_silent id (DeclareToken number wire interest) before none = cc
one_silent id (UndeclareToken number wire interest) before none = cc
one_silent id m before none = refl

pub silent_tokens : (id : ℕ) (ms before : List Message) → TellNone ms → declared_token id (sent_behind ms before) ≡ declared_token id before
silent_tokens id [] before none = refl
silent_tokens id (m ∷ ms) before none = silent_tokens id ms (m ∷ before) none.1 ∙ one_silent id m before none.0

-- the messages of an accepted event
pub messages_are : (s : Settings) (past : List Entry) (e : Event) → messages_of (effects_behind s past e) ≡ told_by_event (known_of s past) (entry_of s past e).number (named_text past e) e
messages_are s past e =
    let fx = effects_on (known_of s past) (entry_of s past e).number (named_text past e) e in
    let heard = listener_effects past (entry_of s past e) in
    sends_append fx heard
    ∙ ap (λ (ms : List Message). messages_of fx ++ ms) (quiet_listeners past (entry_of s past e)).sends_nothing
    ∙ append-nil (messages_of fx)
    ∙ all_sends (known_of s past) (entry_of s past e).number (named_text past e) e
