-- What comes of a publication in the session that makes it.
use Rattle.std.specs.Prelude.{◌≡◌, Bool, true, false, ◌&&◌, List, [], ◌∷◌, map, filter, None, Some}
use Rattle.zs_wire.specs.declared.message.Message.{Message}
use Rattle.zs_wire.specs.declared.message.Message.TheVariants.{Push as push_message}
use Rattle.zs_wire.specs.declared.push.Push.{Push}
use Rattle.zs_subscriptions.specs.declared.subscriber.SubRow.{SubRow}
use Rattle.zs_subscriptions.specs.Recipients.{has_network}
use Rattle.zs_events.specs.declared.event.Event.{Event}
use Rattle.zs_events.specs.declared.turn.Answer.TheVariants.{Ok as accepted}
use Rattle.zs_events.specs.declared.turn.HandOver.{HandOver}
use Rattle.zs_events.specs.declared.turn.HandOver.TheVariants.{Sample as sample_for}
use Rattle.zs_events.specs.declared.turn.Kind.TheVariants.{Subscriber}
use Rattle.zs_events.specs.Kinds.{incoming_content}
use Rattle.zs_core.specs.Types.{Settings}
use Rattle.zs_core.specs.Entry.{is_closed}
use Rattle.zs_core.specs.HeldKeys.{named_text}
use Rattle.zs_core.specs.Live.{live_subs, live_pubs}
use Rattle.zs_core.specs.Causes.{refusal_of}
use Rattle.zs_core.specs.Past.{past_of}
use Rattle.zs_core.specs.Publications.{Publication, sample_on, allows}
use Rattle.zs_core.specs.Effects.{publication_of, effects}
use Rattle.zs_core.specs.Received.{messages_of}
use Rattle.zs_delivery.specs.Links.{is_net}
use Rattle.zs_delivery.specs.Delivery.{hand_overs}

-- the sample for each of these subscribers that the publication reaches and meets, in their order
abbrev pub handed_own : Publication → List SubRow → List HandOver
handed_own p rows = map (λ row. sample_for Subscriber row.id p.sample) (filter (allows p) rows)

-- whoever reads the push's key as that of the sample makes the sample of it
abbrev pub IsPushOf : Publication → Push → Type 0
IsPushOf p push = p.sample ≡ sample_on p.sample.key_expr.text (incoming_content push)

-- a publication that is sent is one message, its push; of another one there is none
abbrev pub IsSentOnce : Bool → Publication → List Message → Type 0
IsSentOnce true p messages = (push : Push) × (messages ≡ push_message push ∷ []) × IsPushOf p push
IsSentOnce false p messages = messages ≡ []

-- a publication that an event makes behind a history is answered without a number, handed out and sent
pub record IsGivenOut (s : Settings) (h : List Event) (e : Event) (p : Publication) : Type 0 where
  pub answer : (effects s h e).answer ≡ accepted None
  pub handed : hand_overs (effects s h e).effects ≡ handed_own p (live_subs (past_of s h))
  pub sent : IsSentOnce (p.local && has_network p.destination) p (messages_of (effects s h e).effects)

-- so is each that an application's event makes, where the session is open and accepts it
abbrev pub PublicationsAreGivenOut : Type 0
PublicationsAreGivenOut =
    (s : Settings) (h : List Event) (e : Event) (p : Publication) → is_closed (past_of s h) ≡ false → refusal_of s (past_of s h) e ≡ None → is_net e ≡ false
    → publication_of (live_pubs (past_of s h)) (named_text (past_of s h) e) e ≡ Some p → IsGivenOut s h e p
