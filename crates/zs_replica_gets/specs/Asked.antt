-- What becomes of a get of a linked session: it is asked, the other side is given its request, and then its final.
use Rattle.std.specs.Prelude.{ℕ, ◌==◌, Bool, true, false, List, [], ◌∷◌, Some, encode_utf8_all, if◌then◌else◌}
use Rattle.zs_wire.specs.declared.message.Message.{Message}
use Rattle.zs_wire.specs.declared.message.Message.TheVariants.{Request, ResponseFinal}
use Rattle.zs_events.specs.declared.event.Event.{Event}
use Rattle.zs_events.specs.declared.event.Event.TheVariants.{Net}
use Rattle.zs_events.specs.declared.turn.Answer.{Answer}
use Rattle.zs_events.specs.declared.turn.Answer.TheVariants.{Ok as accepted}
use Rattle.zs_model.specs.declared.settings.Settings.{Settings}
use Rattle.zs_model.specs.Effects.{effects}
use Rattle.zs_delivery.specs.declared.side.LinkSide.{LinkSide}
use Rattle.zs_delivery.specs.declared.side.LinkSide.TheVariants.{A, B}
use Rattle.zs_delivery.specs.Linked.{LinkLine, linked_after}
use Rattle.zs_replica_gets.specs.Steps.{Step, Writes, Asks, Moves, question, settings_of, side_of, opposite, line_of, links_after}

-- a get that was not asked yet; that was asked on a key, behind these lines; whose request the other side took, behind those; and one that
-- was given the final
pub data Stage : Type 0 where
  Unasked : Stage
  Asked : (key : List ℕ) (own : List LinkLine) → Stage
  Answered : (key : List ℕ) (own others : List LinkLine) → Stage
  Over : Stage

-- what an event is answered by a side behind these lines
unfoldable pub answer_at : Settings → LinkSide → Event → List LinkLine → Answer
answer_at s side e links = (effects (settings_of side s) (side_of side (linked_after s links)).history e).answer

abbrev pub same_side : LinkSide → LinkSide → Bool
same_side A A = true
same_side B B = true
same_side a b = false

-- a get that is answered its number
abbrev pub asked : ℕ → List ℕ → Answer → List LinkLine → Stage → Stage
asked n key (accepted (Some number)) links stage = if number == n then Asked key links else stage
asked n key answer links stage = stage

-- a request that is accepted
abbrev pub answered : Answer → List LinkLine → Stage → Stage
answered (accepted number) links (Asked key own) = Answered key own links
answered answer links stage = stage

-- the other side is given the oldest message of the asker, or the asker that of the other
abbrev pub given_request : Settings → LinkSide → ℕ → List Message → List LinkLine → Stage → Stage
given_request s side n (Request request ∷ later) links stage =
    if request.rid == n then answered (answer_at s (opposite side) (Net (Request request)) links) (line_of (Moves side) ∷ links) stage else stage
given_request s side n waiting links stage = stage

-- whether the oldest message is the final of the get
abbrev pub brings_final : ℕ → List Message → Bool
brings_final n (ResponseFinal rid ∷ later) = rid == n
brings_final n waiting = false

-- the get of that number of a side behind one step more
abbrev pub with_stage : Settings → LinkSide → ℕ → Step → List LinkLine → Stage → Stage
with_stage s side n (Writes actor text update quality) links stage = stage
with_stage s side n (Asks actor text) links stage =
    if same_side actor side then asked n (encode_utf8_all text) (answer_at s side (question text) links) (line_of (Asks actor text) ∷ links) stage else stage
with_stage s side n (Moves from) links stage =
    if same_side from side then given_request s side n (side_of from (linked_after s links)).waiting links stage
    else if brings_final n (side_of from (linked_after s links)).waiting then Over else stage

-- and behind steps, the newest first
abbrev pub stage_after : Settings → List ℕ → LinkSide → ℕ → List Step → Stage
stage_after s keys side n [] = Unasked
stage_after s keys side n (step ∷ h) = with_stage s side n step (links_after s keys h) (stage_after s keys side n h)
