-- The steps of a run's lines, and what gets are handed of them.
use Rattle.std.specs.Prelude.{◌≡◌, ℕ, ◌+◌, zero, suc, List, [], ◌∷◌, ◌++◌, Option, codes, decimal}
use Rattle.zs_wire.specs.declared.message.Message.{Message}
use Rattle.zs_wire.specs.declared.message.Message.TheVariants.{Request as request_message}
use Rattle.zs_wire.specs.declared.request.Request.{Request}
use Rattle.zs_core.specs.Types.{Settings}
use Rattle.zs_core.specs.Settings.{default_settings}
use Rattle.zs_core.specs.Received.{AreSpelled}
use Rattle.zs_events.specs.declared.event.Event.{Event}
use Rattle.zs_events.specs.declared.event.Event.TheVariants.{Publish, Get, Net}
use Rattle.zs_events.specs.declared.key_arg.KeyArg.TheVariants.{Text}
use Rattle.zs_events.specs.declared.turn.Answer.TheVariants.{Ok as accepted}
use Rattle.zs_printing.specs.Printing.{line, answer_fields}
use Rattle.zs_driving.specs.Languages.{events_of}
use Rattle.zs_delivery.specs.declared.side.LinkSide.{LinkSide}
use Rattle.zs_delivery.specs.Linked.{LinkLine, other, linked_after}
use Rattle.zs_link.specs.World.{turn_for}
use Rattle.zs_replica_lines.specs.declared.line.ReplicaLine.TheVariants.{Take as take_line, Refuse, Dump}
use Rattle.zs_replica_lines.specs.Lines.{all_keys, refusal_name}
use Rattle.zs_replica_lines.specs.Shown.{store_text, ends_text}
use Rattle.zs_replicas.specs.Replicas.{Starts, first_events}
use Rattle.zs_replica_gets.specs.Steps.{Step, Writes, Asks, Moves, actor, side_of, opposite, step_effects, links_after}
use Rattle.zs_replica_gets.specs.Asked.{answer_at, stage_after}
use Rattle.zs_replica_gets.specs.Gets.{Goes, Answers, Responds, delivers_final}
use Rattle.zs_replica_gets.specs.Newest.{NewestIsBest}
use Rattle.zs_replica.specs.Told.{letter, store_at, waiting_at}
use Rattle.zs_replica.specs.Language.{Said, To, Move, replica_language, links_behind, line_text}

-- the step of what a side's application says, and those of a delivery of so many messages
abbrev pub steps_by : LinkSide → Event → List Step
steps_by side (Publish destination (Text text) update quality) = Writes side text update quality ∷ []
steps_by side (Get (Text text) settings inquiry to) = Asks side text ∷ []
steps_by side e = []

abbrev pub moves : ℕ → LinkSide → List Step
moves zero from = []
moves (suc n) from = Moves from ∷ moves n from

-- those of a line behind what was taken and delivered before, and of all lines, the newest first
abbrev pub steps_of : Settings → Said → List LinkLine → List Step
steps_of s (To side (take_line e)) links = steps_by side e
steps_of s (To side (Refuse refusal)) links = []
steps_of s (To side Dump) links = []
steps_of s (Move from) links = moves (waiting_at s from links) from

abbrev pub steps_behind : Settings → List Said → List Step
steps_behind s [] = []
steps_behind s (said ∷ h) = steps_of s said (links_behind s h) ++ steps_behind s h

-- what is printed of a line before what gets are handed
abbrev pub head_text : Settings → ℕ → Said → List LinkLine → List ℕ
head_text s number (To side (take_line e)) links = line number (answer_fields (turn_for s side (linked_after s links) e).answer)
head_text s number (To side (Refuse refusal)) links = line number (codes "refused" ∷ refusal_name refusal ∷ [])
head_text s number (To side Dump) links = line number (codes "ok" ∷ []) ++ store_text number (letter side) (store_at s side links)
head_text s number (Move from) links = line number (codes "ok" ∷ decimal (waiting_at s from links) ∷ [])

-- and what is printed of steps behind others: what the gets of the side that acts are handed, and which end
abbrev pub steps_text : Settings → ℕ → List Step → List Step → List ℕ
steps_text s number [] before = []
steps_text s number (step ∷ steps) before =
    steps_text s number steps before ++ ends_text number (letter (actor step)) (step_effects s step (links_after s all_keys (steps ++ before)))

-- a request that a step delivers and that is accepted is answered in that step: from the store of the side that took it, with its final
abbrev pub RequestsGo : Settings → List Step → Type 0
RequestsGo s steps =
    (later before : List Step) (from : LinkSide) (request : Request) (waiting : List Message) (number : Option ℕ) → steps ≡ later ++ Moves from ∷ before
    → (side_of from (linked_after s (links_after s all_keys before))).waiting ≡ request_message request ∷ waiting
    → answer_at s (opposite from) (Net (request_message request)) (links_after s all_keys before) ≡ accepted number
    → Responds s all_keys from request (links_after s all_keys before)

-- the lines are these steps, each of which hands gets what the law says, and answers the request that it delivers
pub record GetsGo (s : Settings) (saids : List Said) : Type 0 where
  pub links : links_behind s saids ≡ links_after s all_keys (steps_behind s saids)
  pub goes :
      (later before : List Step) (step : Step) (n : ℕ) → steps_behind s saids ≡ later ++ step ∷ before
      → Goes s all_keys (actor step) n (delivers_final s n step (links_after s all_keys before)) (stage_after s all_keys (actor step) n before)
      (step_effects s step (links_after s all_keys before))
  pub answers : RequestsGo s (steps_behind s saids)

-- and just that is printed of them
abbrev pub Prints : Settings → List Said → Said → ℕ → Type 0
Prints s h said number = line_text s h number said ≡ head_text s number said (links_behind s h) ++ steps_text s number (steps_of s said (links_behind s h)) (steps_behind s h)

-- so it is with the lines that any rows are
abbrev pub GetsShowNewest : Type 0
GetsShowNewest =
    (s : Settings) (rows : List (List ℕ)) → AreSpelled s → Starts s all_keys (first_events all_keys) → Starts (other s) all_keys (first_events all_keys)
    → Answers s all_keys → Answers (other s) all_keys → GetsGo s (events_of (replica_language s) rows)

abbrev pub LinesPrintGets : Type 0
LinesPrintGets =
    (s : Settings) (row : List ℕ) (rows : List (List ℕ)) (said : Said) (number : ℕ) → events_of (replica_language s) (row ∷ rows) ≡ said ∷ events_of (replica_language s) rows
    → Prints s (events_of (replica_language s) rows) said number

-- and with every run of the program. The newest of what both sides took at a key is the greatest of all of it, where entries of one
-- timestamp there are equal
pub record RunsShowGets : Type 0 where
  pub best : NewestIsBest
  pub hands : (rows : List (List ℕ)) → GetsGo default_settings (events_of (replica_language default_settings) rows)
  pub prints :
      (row : List ℕ) (rows : List (List ℕ)) (said : Said) (number : ℕ) → events_of (replica_language default_settings) (row ∷ rows) ≡ said ∷ events_of (replica_language default_settings) rows
      → Prints default_settings (events_of (replica_language default_settings) rows) said number
