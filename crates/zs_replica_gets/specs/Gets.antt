-- What a get of a linked session is handed: the newest that both sides have at each key that meets its own.
use Rattle.std.specs.Prelude.{◌≡◌, ℕ, ◌==◌, Bool, true, false, List, [], ◌∷◌, ◌++◌, Option, Some, codes, IsUtf8}
use Rattle.std.specs.List.{list_any}
use Rattle.zs_wire.specs.declared.message.Message.{Message}
use Rattle.zs_wire.specs.declared.message.Message.TheVariants.{Request as request_message}
use Rattle.zs_wire.specs.declared.request.Request.{Request}
use Rattle.zs_events.specs.declared.event.Event.TheVariants.{Net}
use Rattle.zs_events.specs.declared.turn.Answer.TheVariants.{Ok as accepted}
use Rattle.zs_events.specs.declared.turn.Effect.{Effect}
use Rattle.zs_model.specs.declared.settings.Settings.{Settings}
use Rattle.zs_model.specs.Settings.{default_settings}
use Rattle.zs_model.specs.Gets.{asked}
use Rattle.zs_model.specs.HeldKeys.{wire_text}
use Rattle.zs_model.specs.Live.{live_queryables}
use Rattle.zs_model.specs.Past.{past_of}
use Rattle.zs_model.specs.Received.{AreSpelled}
use Rattle.zs_model.specs.Values.{values_now}
use Rattle.zs_laws.specs.Ended.{get_ended, picked}
use Rattle.zs_laws.specs.Handed.{handed_to}
use Rattle.zs_delivery.specs.declared.side.LinkSide.{LinkSide}
use Rattle.zs_delivery.specs.Linked.{LinkLine, other, linked_after}
use Rattle.zs_store.specs.Store.{Write}
use Rattle.zs_store.specs.Laws.{HoldsBest}
use Rattle.zs_replicas.specs.Replicas.{first_events, took, Starts}
use Rattle.zs_replica_gets.specs.Steps.{Step, Moves, answerer_row, settings_of, side_of, opposite, store_at, actor, line_of, with_step, step_effects, links_after, AreReplicaSteps}
use Rattle.zs_replica_gets.specs.Newest.{HandsNewest}
use Rattle.zs_replica_gets.specs.Responding.{answer_messages}
use Rattle.zs_replica_gets.specs.Asked.{Stage, Answered, answer_at, brings_final, stage_after}

-- what a side took behind these lines: what its own application wrote, and what the other's did, but for the newest, whose pushes wait
abbrev pub took_at : Settings → LinkSide → List LinkLine → List Write
took_at s side links = took (side_of side (linked_after s links)) (side_of (opposite side) (linked_after s links))

-- whether effects tell the end of a get
abbrev pub ends : ℕ → List Effect → Bool
ends n fx = list_any (λ m. m == n) (picked get_ended fx)

-- what a get of a side is handed that ends: the request was answered, and it is the newest of what the asker had where it asked and the
-- other side where it took the request, each the greatest entries of all that it took by then
pub record HandsOut (s : Settings) (keys : List ℕ) (side : LinkSide) (n : ℕ) (stage : Stage) (fx : List Effect) : Type 0 where
  pub key : List ℕ
  pub own : List LinkLine
  pub others : List LinkLine
  pub answered : stage ≡ Answered key own others
  pub newest : HandsNewest keys key (store_at s side own) (store_at s (opposite side) others) (handed_to n fx)
  pub own_best : HoldsBest (took_at s side own) (store_at s side own)
  pub others_best : HoldsBest (took_at s (opposite side) others) (store_at s (opposite side) others)
  pub ended : ends n fx ≡ true

-- a get is handed something in the step alone that delivers its final, which ends it
pub record Goes (s : Settings) (keys : List ℕ) (side : LinkSide) (n : ℕ) (final : Bool) (stage : Stage) (fx : List Effect) : Type 0 where
  pub hands : final ≡ true → HandsOut s keys side n stage fx
  pub waits : final ≡ false → (handed_to n fx ≡ []) × (ends n fx ≡ false)

-- whether a step delivers the final of a side's get
abbrev pub delivers_final : Settings → ℕ → Step → List LinkLine → Bool
delivers_final s n (Moves from) links = brings_final n (side_of from (linked_after s links)).waiting
delivers_final s n step links = false

-- a session of these settings has that queryable behind the two declarations, and no get or query
pub record Answers (s : Settings) (keys : List ℕ) : Type 0 where
  pub rows : live_queryables (past_of s (first_events keys)) ≡ answerer_row keys ∷ []
  pub values : values_now (past_of s (first_events keys)) ≡ []
  pub gets : asked s (past_of s (first_events keys)) ≡ []

-- so it is with each get of the side that a step has take something, whatever happened before
abbrev pub GetsHandTheNewest : Type 0
GetsHandTheNewest =
    (s : Settings) (keys : List ℕ) (h : List Step) (step : Step) (n : ℕ) → IsUtf8 keys → AreSpelled s
    → Starts s keys (first_events keys) → Starts (other s) keys (first_events keys) → Answers s keys → Answers (other s) keys
    → AreReplicaSteps keys (step ∷ h)
    → Goes s keys (actor step) n (delivers_final s n step (links_after s keys h)) (stage_after s keys (actor step) n h) (step_effects s step (links_after s keys h))

-- a request that is delivered and accepted is answered in that step: behind what waited at the side that took it wait a response with each
-- entry of its store that meets the key, and then the final
pub record Responds (s : Settings) (keys : List ℕ) (from : LinkSide) (r : Request) (links : List LinkLine) : Type 0 where
  pub key : List ℕ
  pub read : wire_text (past_of (settings_of (opposite from) s) (side_of (opposite from) (linked_after s links)).history) r.wire ≡ Some key
  pub sent :
      (side_of (opposite from) (linked_after s (with_step s (Moves from) links))).waiting
      ≡ (side_of (opposite from) (linked_after s links)).waiting
      ++ answer_messages (settings_of (opposite from) s).zid r.rid r.qos keys key (store_at s (opposite from) (line_of (Moves from) ∷ links))

abbrev pub RequestsAreAnswered : Type 0
RequestsAreAnswered =
    (s : Settings) (keys : List ℕ) (h : List Step) (from : LinkSide) (r : Request) (later : List Message) (number : Option ℕ) → IsUtf8 keys → AreSpelled s
    → Starts s keys (first_events keys) → Starts (other s) keys (first_events keys) → Answers s keys → Answers (other s) keys
    → AreReplicaSteps keys h → (side_of from (linked_after s (links_after s keys h))).waiting ≡ request_message r ∷ later
    → answer_at s (opposite from) (Net (request_message r)) (links_after s keys h) ≡ accepted number
    → Responds s keys from r (links_after s keys h)

-- so do the sessions of a program, where all keys below `r` are replicated
pub record DefaultSessionsAnswer : Type 0 where
  pub first : Answers default_settings (codes "r/**")
  pub second : Answers (other default_settings) (codes "r/**")
