-- What is recorded of an event: its line behind `>`, and the lines of its turn, each behind `<`.
use Rattle.std.specs.Prelude.{ℕ, Bool, List, [], ◌++◌, Option, Some, None, is_some, option_map, unwrap_or, codes, if◌then◌else◌}
use Rattle.zs_events.specs.declared.event.Event.{Event}
use Rattle.zs_events.specs.declared.script_event.ScriptEvent.{ScriptEvent}
use Rattle.zs_events.specs.declared.script_event.ScriptEvent.TheVariants.{Core, Recv}
use Rattle.zs_events.specs.declared.turn.Turn.{Turn}
use Rattle.zs_grammar.specs.Grammar.{event_of}
use Rattle.zs_printing.specs.Printing.{marked_text}
use Rattle.zs_event_lines.specs.Slots.{printed}
use Rattle.zs_event_lines.specs.Lines.{line_of}

-- the line of an event, if a line says it
abbrev pub marked_row : List ℕ → List ℕ
marked_row text = codes ">\t" ++ (text ++ codes "\n")

abbrev pub event_row : Event → Option (List ℕ)
event_row e = option_map marked_row (printed (line_of e))

-- whether one does
abbrev pub is_printable : Event → Bool
is_printable e = is_some (event_row e)

-- the lines of a turn
abbrev pub turn_rows : ℕ → Turn → List ℕ
turn_rows number turn = marked_text (codes "<\t") number [] turn

-- what is recorded of an event that a line says, with its turn
abbrev pub entry_text : ℕ → Event → Turn → List ℕ
entry_text number e turn = unwrap_or (event_row e) [] ++ turn_rows number turn

-- an event that can be recorded, as a line of a script says it: a read of a channel is none
abbrev pub if_printable : Event → Option Event
if_printable e = if is_printable e then Some e else None

abbrev pub if_recorded : Option ScriptEvent → Option Event
if_recorded (Some (Core e)) = if_printable e
if_recorded (Some (Recv kind id)) = None
if_recorded None = None

abbrev pub recorded_of : List ℕ → Option Event
recorded_of row = if_recorded (event_of row)

-- the event of the session that a line of a script says: a read of a channel is none
abbrev pub if_core : Option ScriptEvent → Option Event
if_core (Some (Core e)) = Some e
if_core (Some (Recv kind id)) = None
if_core None = None

abbrev pub session_of : List ℕ → Option Event
session_of row = if_core (event_of row)
