-- A side of a link behind an event, from what its cell promises.
use Rattle.std.proofs.Common.{◌≡◌, ℕ, List, [], ◌∷◌, ◌++◌, Bool, true, false, Option, Some, None, refl, sym, ◌∙◌, ap, subst}
use Rattle.std.specs.Prelude.{slice_get, IsTrue, IfNone, if◌then◌else◌, ◌&&◌, ◌==◌, not, nat_lt, nat_le}
use Rattle.std.specs.Option.{option_to_list}
use Rattle.zs_wire.specs.declared.message.Message.{Message}
use Rattle.zs_events.specs.declared.event.Event.{Event}
use Rattle.zs_events.specs.declared.event.Event.TheVariants.{Net}
use Rattle.zs_events.specs.declared.turn.Effect.{Effect}
use Rattle.zs_events.specs.declared.turn.Effect.TheVariants.{Send}
use Rattle.zs_events.specs.declared.turn.Turn.{Turn}
use Rattle.zs_turns.specs.declared.item.Item.{Item}
use Rattle.zs_posts.specs.Calls.{CallSeen}
use Rattle.zs_exchange.specs.Exchange.{ExchangeSeen, IsNew as IsNewExchange, kept_messages}
use Rattle.zs_exchange.specs.Handlers.{AreGates}
use Rattle.zs_core.specs.Types.{Settings}
use Rattle.zs_core.specs.Settings.{is_valid, last_entity}
use Rattle.zs_core.specs.World.{World as Tables}
use Rattle.zs_core.specs.Received.{messages_of}
use Rattle.zs_session_cell.specs.Core.{turn_at, StandsFor, Stepped}
use Rattle.zs_session_cell.specs.Cells.{CellSeen, Takes as CellTakes}
use Rattle.zs_delivery.specs.Linked.{Side, other, sent_at, is_event, with_event, with_oldest, without_oldest, taken_out}
use Rattle.zs_link.specs.declared.world.Delivered.{Delivered}
use Rattle.zs_link.specs.declared.world.Delivered.TheVariants.{Nothing, Dropped, Taken}
use Rattle.zs_delivery.specs.declared.side.LinkSide.TheVariants.{A, B}
use Rattle.zs_link.specs.World.{SideSeen, LinkSeen, IsWithoutHandlers, StandsAs, StandAs, IsNew, TakesEvent, delivered_of, without_first, Passes, Delivers}

-- the messages that a cell keeps are those of the turn
pub kept_are : (fx : List Effect) → kept_messages true fx ≡ messages_of fx
kept_are [] = refl
kept_are (Send message ∷ fx) = ap (λ (ms : List Message). message ∷ ms) (kept_are fx)
kept_are (effect ∷ fx) = kept_are fx

pub kept_is : (s : Settings) (h : List Event) (e : Event) (turn : Turn) → turn ≡ turn_at s h e → kept_messages true turn.effects ≡ sent_at s h e
unfolding turn_at sent_at
kept_is s h e turn is = kept_are turn.effects ∙ ap (λ (made : Turn). messages_of made.effects) is

pub steps_turn : (old new : Tables) (e : Event) (turn : Turn) (s : Settings) (h : List Event) → Stepped old new e turn → StandsFor old s h → turn ≡ turn_at s h e
unfolding Stepped StandsFor turn_at
steps_turn old new e turn s h steps stands = (steps s h stands).0

pub steps_stand : (old new : Tables) (e : Event) (turn : Turn) (s : Settings) (h : List Event) → Stepped old new e turn → StandsFor old s h → StandsFor new s (e ∷ h)
unfolding Stepped StandsFor
steps_stand old new e turn s h steps stands = (steps s h stands).1

-- what is seen of a cell
abbrev pub seen : {H : Type 0} → CellSeen H → SideSeen
seen cell = record { world = cell.world; waiting = cell.exchange.outbox }

module _ {H : Type 0} (old new : CellSeen H) (e : Event) (turn : Turn) (calls : List (CallSeen H Item)) (without : IsWithoutHandlers old) (takes : CellTakes e None 0 old turn calls new) where
  pub takes_event : TakesEvent e (seen old) turn (seen new)
  takes_event s side stand =
      let is : turn ≡ turn_at s side.history e = steps_turn old.world new.world e turn s side.history takes.steps stand.stands in (
        is,
        record {
          stands = steps_stand old.world new.world e turn s side.history takes.steps stand.stands;
          waits =
              ap (λ (x : ExchangeSeen H). x.outbox) takes.carries.rest
              ∙ ap (λ (b : Bool). old.exchange.outbox ++ kept_messages b turn.effects) without.keeps
              ∙ ap (λ (ms : List Message). ms ++ kept_messages true turn.effects) stand.waits
              ∙ ap (λ (ms : List Message). side.waiting ++ ms) (kept_is s side.history e turn is);
        },
      )

  pub keeps_still : new.exchange.keeps ≡ true
  keeps_still = ap (λ (x : ExchangeSeen H). x.keeps) takes.carries.rest ∙ without.keeps

-- the sides of a link behind a delivery
pub delivers_a : (old new : LinkSeen) (delivered : Delivered) → Passes old.a old.b delivered new.a new.b → Delivers A old delivered new
delivers_a old new delivered passes s w stand =
    let p = passes s (other s) w.a w.b stand.a stand.b in
    (p.0, record { a = p.1; b = p.2 })

pub delivers_b : (old new : LinkSeen) (delivered : Delivered) → Passes old.b old.a delivered new.b new.a → Delivers B old delivered new
delivers_b old new delivered passes s w stand =
    let p = passes (other s) s w.b w.a stand.b stand.a in
    (p.0, record { a = p.2; b = p.1 })
