-- What comes of a push that is delivered.
use Rattle.std.specs.Prelude.{◌≡◌, ◌⊎◌, ℕ, Bool, false, ◌&&◌, List, [], ◌∷◌, map, filter, None}
use Rattle.zs_keys.specs.Matching.{intersects}
use Rattle.zs_wire.specs.declared.message.Message.{Message}
use Rattle.zs_wire.specs.declared.message.Message.TheVariants.{Push as push_message}
use Rattle.zs_wire.specs.declared.push.Push.{Push}
use Rattle.zs_sample.specs.declared.sample_fields.SampleFields.{SampleFields}
use Rattle.zs_subscriptions.specs.declared.subscriber.SubRow.{SubRow}
use Rattle.zs_subscriptions.specs.Recipients.{has_network}
use Rattle.zs_events.specs.declared.event.Event.{Event}
use Rattle.zs_events.specs.declared.event.Event.TheVariants.{Net}
use Rattle.zs_events.specs.declared.turn.Answer.TheVariants.{Ok as accepted}
use Rattle.zs_events.specs.declared.turn.Effect.{Effect}
use Rattle.zs_events.specs.declared.turn.Effect.TheVariants.{Hand}
use Rattle.zs_events.specs.declared.turn.HandOver.{HandOver}
use Rattle.zs_events.specs.declared.turn.HandOver.TheVariants.{Sample as sample_for}
use Rattle.zs_events.specs.declared.turn.Kind.TheVariants.{Subscriber}
use Rattle.zs_core.specs.Types.{Settings}
use Rattle.zs_core.specs.Entry.{is_closed}
use Rattle.zs_core.specs.Live.{live_subs}
use Rattle.zs_core.specs.Past.{past_of}
use Rattle.zs_core.specs.Publications.{Publication}
use Rattle.zs_core.specs.Effects.{effects}
use Rattle.zs_core.specs.Received.{messages_of, AreSpelled}
use Rattle.zs_laws.specs.Origins.{IsMade}
use Rattle.zs_delivery.specs.Linked.{Side, LinkLine, other, linked_after}
use Rattle.zs_delivery.specs.Links.{AreOwn, AreSpelledLines}

-- some event of a history was accepted, and published this for a destination that has the network in it
abbrev pub WasMade : Settings → List Event → Publication → Type 0
WasMade s [] p = ⊥
WasMade s (e ∷ h) p = IsMade s (past_of s h) e p ⊎ WasMade s h p

-- what is handed over among effects
abbrev pub hand_overs : List Effect → List HandOver
hand_overs [] = []
hand_overs (Hand item ∷ fx) = item ∷ hand_overs fx
hand_overs (effect ∷ fx) = hand_overs fx

-- a subscriber that takes what is incoming and meets a text
abbrev pub takes_incoming : List ℕ → SubRow → Bool
takes_incoming text row = has_network row.origin && intersects text row.key.text

-- a sample handed to those of these subscribers
abbrev pub handed_incoming : SampleFields → List SubRow → List HandOver
handed_incoming sample rows = map (λ row. sample_for Subscriber row.id sample) (filter (takes_incoming sample.key_expr.text) rows)

-- a push, where it is given to a side: it is the push of a publication that the sender made, whose sample is handed to exactly those
-- subscribers of the receiver that are live then, take it and meet its key, and nothing is sent
pub record IsHanded (s t : Settings) (from to : Side) (push : Push) : Type 0 where
  pub publication : Publication
  pub made : WasMade s from.history publication
  pub answer : (effects t to.history (Net (push_message push))).answer ≡ accepted None
  pub handed : hand_overs (effects t to.history (Net (push_message push))).effects ≡ handed_incoming publication.sample (live_subs (past_of t to.history))
  pub silent : messages_of (effects t to.history (Net (push_message push))).effects ≡ []

-- so it is with the oldest message that waits, where it is a push and the receiver is open
abbrev pub HandsPushes : Settings → Settings → Side → Side → Type 0
HandsPushes s t from to =
    (push : Push) (later : List Message) → from.waiting ≡ push_message push ∷ later → is_closed (past_of t to.history) ≡ false → IsHanded s t from to push

-- both ways
pub record BothHand (s : Settings) (a b : Side) : Type 0 where
  pub forth : HandsPushes s (other s) a b
  pub back : HandsPushes (other s) s b a

-- behind every schedule
abbrev pub DeliveredAreHanded : Type 0
DeliveredAreHanded =
    (s : Settings) (h : List LinkLine) → AreSpelled s → AreOwn h → AreSpelledLines h → BothHand s (linked_after s h).a (linked_after s h).b
