-- What a script is, and its whole text.
use Rattle.std.specs.Prelude.{ℕ, ◌+◌, Bool, true, false, List, [], ◌∷◌, ◌++◌, length, Option, Some, None}
use Rattle.std.specs.List.{filter_map}
use Rattle.zs_events.specs.declared.event.Event.TheVariants.{Close}
use Rattle.zs_events.specs.declared.received.Received.{Received}
use Rattle.zs_events.specs.declared.script_event.ScriptEvent.{ScriptEvent}
use Rattle.zs_events.specs.declared.script_event.ScriptEvent.TheVariants.{Core, Recv}
use Rattle.zs_events.specs.declared.turn.HandOver.{HandOver}
use Rattle.zs_events.specs.declared.turn.Refusal.{Refusal}
use Rattle.zs_events.specs.declared.turn.Refusal.TheVariants.{NotFound}
use Rattle.zs_events.specs.Turn.{answered}
use Rattle.zs_core.specs.Types.{Settings}
use Rattle.zs_core.specs.Entry.{is_closed}
use Rattle.zs_core.specs.Past.{past_of}
use Rattle.zs_core.specs.Effects.{effects}
use Rattle.zs_lines.specs.Lines.{lines}
use Rattle.zs_driving.specs.Languages.{Language}
use Rattle.zs_grammar.specs.Grammar.{event_of}
use Rattle.zs_printing.specs.Printing.{line, turn_text, received_fields}
use Rattle.zs_session.specs.Heard.{core_of, answer_of}

-- the events of lines, in their order
abbrev pub events_of : List (List ℕ) → List ScriptEvent
events_of rows = filter_map event_of rows

-- the script that bytes are: the event of each line, and the close at the end of input
abbrev pub script : List ℕ → List ScriptEvent
script input = events_of (lines input) ++ Core Close ∷ []

-- why a read is refused, given what it is answered and whether the session is closed: while the session is open there
-- has to be a channel
abbrev pub read_refusal : Option (Received HandOver) → Bool → Option Refusal
read_refusal (Some answer) closed = None
read_refusal None false = Some NotFound
read_refusal None true = None

-- what is printed for a read: what it is answered, or, where there is no channel, the refusal, or, behind the close, that
-- it did nothing
abbrev pub read_text : ℕ → Option (Received HandOver) → Bool → List ℕ
read_text number (Some answer) closed = line number (received_fields answer)
read_text number None closed = turn_text number (answered (read_refusal None closed) None [])

-- what is printed for an event behind a history
abbrev pub event_text : Settings → List ScriptEvent → ℕ → ScriptEvent → List ℕ
event_text s h number (Core e) = turn_text number (effects s (core_of h) e)
event_text s h number (Recv kind id) = read_text number (answer_of s h kind id) (is_closed (past_of s (core_of h)))

-- what is printed for events behind a history: the lines of each one, under its number from 1
abbrev pub text_after : Settings → List ScriptEvent → List ScriptEvent → List ℕ
text_after s h [] = []
text_after s h (e ∷ es) = event_text s h (length h + 1) e ++ text_after s (e ∷ h) es

-- what is printed for events from the first one on
abbrev pub text : Settings → List ScriptEvent → List ℕ
text s es = text_after s [] es

-- the language of scripts: the event of each line, and what is printed for it and for the close behind the events before
abbrev pub language : Settings → Language ScriptEvent
language s = record {
  event_of = event_of;
  event_text = λ h e. event_text s h (length h + 1) e;
  end_text = λ h. event_text s h (length h + 1) (Core Close);
}
