-- Printed lines are read as what was printed.
use Rattle.std.specs.Prelude.{ℕ, ◌≡◌, Bool, true, List, Option, Some, None}
use Rattle.std.specs.Str.{is_utf8}
use Rattle.zs_events.specs.declared.event.Event.{Event}
use Rattle.zs_events.specs.declared.script_event.ScriptEvent.TheVariants.{Core}
use Rattle.zs_grammar.specs.Grammar.{event_of}
use Rattle.zs_script.specs.Plain.{has_no_line_feed}
use Rattle.zs_event_lines.specs.Slots.{Line, slots_say, slots_are_typed, printed}
use Rattle.zs_event_lines.specs.Lines.{line_of, gathered_event}

-- what the types of an event's fields say of them, where it has a line
abbrev pub are_typed : Option Line → Bool
are_typed None = true
are_typed (Some line) = slots_are_typed line.slots

-- the text of an event's line is UTF-8 and says that event
abbrev pub PrintedEventsAreRead : Type 0
PrintedEventsAreRead = (event : Event) (text : List ℕ) → printed (line_of event) ≡ Some text → is_utf8 text ≡ true
    → are_typed (line_of event) ≡ true → event_of text ≡ Some (Core (gathered_event event))

-- the text of an event's line has no line feed
abbrev pub PrintedEventsAreLines : Type 0
PrintedEventsAreLines = (event : Event) (text : List ℕ) → printed (line_of event) ≡ Some text → has_no_line_feed text ≡ true

-- a line all of which can be said, and as the types of its values say
abbrev pub IsSayableLine : Option Line → Type 0
IsSayableLine None = ⊥
IsSayableLine (Some line) = (slots_say line.slots ≡ true) × (slots_are_typed line.slots ≡ true)

-- an event that has such a line, and comes back the same
abbrev pub IsSayable : Event → Type 0
IsSayable event = IsSayableLine (line_of event) × (gathered_event event ≡ event)

-- an event that a line says has a line of its own, and comes back the same
abbrev pub LinesAreSayable : Type 0
LinesAreSayable = (bytes : List ℕ) (event : Event) → has_no_line_feed bytes ≡ true → event_of bytes ≡ Some (Core event) → IsSayable event
