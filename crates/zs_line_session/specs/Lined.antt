-- What a session with kept text is, and what it is after a line.
use Rattle.std.specs.Prelude.{◌≡◌, ℕ, ◌≤◌, ◌<◌, true, List, [], ◌++◌, length, Option, None, Some}
use Rattle.zs_events.specs.declared.event.Event.{Event}
use Rattle.zs_events.specs.declared.script_event.ScriptEvent.{ScriptEvent}
use Rattle.zs_events.specs.declared.script_event.ScriptEvent.TheVariants.{Core, Recv}
use Rattle.zs_events.specs.declared.turn.Answer.{Answer}
use Rattle.zs_events.specs.declared.turn.Effect.{Effect}
use Rattle.zs_events.specs.declared.turn.Turn.{Turn}
use Rattle.zs_events.specs.Turn.{was_refused}
use Rattle.zs_core.specs.Types.{Settings}
use Rattle.zs_core.specs.World.{World}
use Rattle.zs_core.specs.Stands.{world_after, TakesStep}
use Rattle.zs_grammar.specs.Grammar.{event_of}
use Rattle.zs_printing.specs.Printing.{turn_text}
use Rattle.zs_line_session.specs.declared.session.LineFault.{LineFault}
use Rattle.zs_line_session.specs.declared.session.LineFault.TheVariants.{TooLong, NoEvent, NoMemory}

-- a session's tables, the text and the effects that were not read yet, and how many bytes a line may have
pub record Lined : Type 0 where
  pub world : World
  pub text : List ℕ
  pub effects : List Effect
  pub line_max : ℕ

-- a session that was just opened
abbrev pub opened : Settings → Lined
opened s = record { world = world_after s []; text = []; effects = []; line_max = s.line_max }

-- an event was taken and its turn printed: the session made a step by it, one that was refused changed nothing, and the text of
-- the turn stands behind what waited
pub record Takes (old new : Lined) (number : ℕ) (event : Event) : Type 0 where
  pub turn : Turn
  pub steps : TakesStep old.world new.world event turn
  pub refuses : was_refused turn.answer ≡ true → new.world ≡ old.world
  pub text : new.text ≡ old.text ++ turn_text number turn
  pub effects : new.effects ≡ old.effects
  pub line_max : new.line_max ≡ old.line_max

-- an event was taken and answered so: the session made a step by it, one that was refused changed nothing, and its effects stand
-- behind those that waited
pub record Makes (old new : Lined) (event : Event) (answer : Answer) : Type 0 where
  pub turn : Turn
  pub steps : TakesStep old.world new.world event turn
  pub refuses : was_refused turn.answer ≡ true → new.world ≡ old.world
  pub answered : turn.answer ≡ answer
  pub effects : new.effects ≡ old.effects ++ turn.effects
  pub text : new.text ≡ old.text
  pub line_max : new.line_max ≡ old.line_max

-- the session's event that what a line says is
abbrev pub session_event : Option ScriptEvent → Option Event
session_event (Some (Core e)) = Some e
session_event (Some (Recv kind number)) = None
session_event None = None

-- a line was taken: it is short enough and says an event, which was taken
pub record TakesLine (old new : Lined) (number : ℕ) (line : List ℕ) : Type 0 where
  pub event : Event
  pub says : session_event (event_of line) ≡ Some event
  pub fits : length line ≤ old.line_max
  pub takes : Takes old new number event

-- why a line was not taken
abbrev pub IsCause : LineFault → Lined → List ℕ → Type 0
IsCause TooLong old line = old.line_max < length line
IsCause NoEvent old line = (length line ≤ old.line_max) × (session_event (event_of line) ≡ None)
IsCause NoMemory old line = length line ≤ old.line_max
