-- Where the messages of a session come from: each push is that of an accepted publication, and each key that is sent was tested.
use Rattle.std.specs.Prelude.{◌≡◌, ℕ, true, false, ◌&&◌, List, Option, Some, None}
use Rattle.std.specs.List.{AllByRecursion}
use Rattle.std.specs.Option.{IfSome, MatchOption}
use Rattle.zs_keys.specs.Text.{is_canonical}
use Rattle.zs_wire.specs.declared.message.Message.{Message}
use Rattle.zs_wire.specs.declared.message.Message.TheVariants.{Push as push_message}
use Rattle.zs_wire.specs.declared.push.Push.{Push}
use Rattle.zs_subscriptions.specs.Recipients.{has_network}
use Rattle.zs_events.specs.declared.event.Event.{Event}
use Rattle.zs_events.specs.Kinds.{incoming_content}
use Rattle.zs_model.specs.declared.settings.Settings.{Settings}
use Rattle.zs_model.specs.Entry.{Entry, is_closed}
use Rattle.zs_model.specs.HeldKeys.{named_text}
use Rattle.zs_model.specs.Live.{live_pubs}
use Rattle.zs_model.specs.Causes.{refusal_of}
use Rattle.zs_model.specs.Past.{past_of}
use Rattle.zs_model.specs.Publications.{Publication, sample_on}
use Rattle.zs_model.specs.Effects.{publication_of, effects}
use Rattle.zs_model.specs.Received.{messages_of, wire_in, spoken_text}

-- the push that a message is, if it is one
abbrev pub push_in : Message → Option Push
push_in (push_message push) = Some push
push_in message = None

-- an event is accepted in an open session, and publishes this for a destination that has the network in it
pub record IsMade (s : Settings) (past : List Entry) (e : Event) (p : Publication) : Type 0 where
  pub unshut : is_closed past ≡ false
  pub accepted : refusal_of s past e ≡ None
  pub published : publication_of (live_pubs past) (named_text past e) e ≡ Some p
  pub for_network : (p.local && has_network p.destination) ≡ true

-- a push is an event's publication: whoever reads its key as that of the event makes the publication's sample of it
pub record IsPublished (s : Settings) (past : List Entry) (e : Event) (push : Push) : Type 0 where
  pub text : List ℕ
  pub publication : Publication
  pub named : named_text past e ≡ Some text
  pub made : IsMade s past e publication
  pub sample : publication.sample ≡ sample_on text (incoming_content push)

-- there is a text, and it is a canonical key expression
abbrev pub IsTested : Option (List ℕ) → Type 0
IsTested text = MatchOption text ⊥ (λ t. is_canonical t ≡ true)

-- a push is its event's publication, and the key that a message names is a text that was tested
abbrev pub HasOrigin : Settings → List Entry → Event → Message → Type 0
HasOrigin s past e message = IfSome (push_in message) (IsPublished s past e) × IfSome (wire_in message) (λ wire. IsTested (spoken_text past e))

-- so it is with each message that an event sends
abbrev pub MessagesHaveOrigins : Type 0
MessagesHaveOrigins = (s : Settings) (h : List Event) (e : Event) → AllByRecursion (HasOrigin s (past_of s h) e) (messages_of (effects s h e).effects)
