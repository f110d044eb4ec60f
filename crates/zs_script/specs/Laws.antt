-- The laws by which the lines and fields of a printed text are found again.
use Rattle.std.specs.Prelude.{ℕ, ◌≡◌, true, List, [], ◌∷◌, ◌++◌, Some, decimal, map}
use Rattle.std.specs.List.{list_all}
use Rattle.zs_events.specs.declared.received.Received.{Received}
use Rattle.zs_events.specs.declared.script_event.ScriptEvent.{ScriptEvent}
use Rattle.zs_events.specs.declared.turn.Answer.{Answer}
use Rattle.zs_events.specs.declared.turn.Effect.{Effect}
use Rattle.zs_events.specs.declared.turn.HandOver.{HandOver}
use Rattle.zs_events.specs.declared.turn.Turn.{Turn}
use Rattle.zs_lines.specs.Lines.{lines, fields}
use Rattle.zs_grammar.specs.Grammar.{event_of}
use Rattle.zs_printing.specs.Printing.{line, answer_fields, effect_fields, received_fields, turn_text}
use Rattle.zs_script.specs.Plain.{has_no_line_feed, is_plain, is_plain_script_event, is_plain_effect, is_plain_received}

-- fields, each behind a tab
abbrev pub row : List (List ℕ) → List ℕ
row [] = []
row (field ∷ more) = 9 ∷ (field ++ row more)

-- no line of any bytes has a line feed
abbrev pub LinesHaveNoLineFeed : Type 0
LinesHaveNoLineFeed = (bytes : List ℕ) → list_all has_no_line_feed (lines bytes) ≡ true

-- the fields of a line without a line feed are plain
abbrev pub FieldsArePlain : Type 0
FieldsArePlain = (bytes : List ℕ) → has_no_line_feed bytes ≡ true → list_all is_plain (fields bytes) ≡ true

-- what a line without a line feed says is plain
abbrev pub EventsArePlain : Type 0
EventsArePlain = (bytes : List ℕ) (event : ScriptEvent) → has_no_line_feed bytes ≡ true → event_of bytes ≡ Some event
    → is_plain_script_event event ≡ true

-- an answer is printed in plain fields
abbrev pub AnswersArePlain : Type 0
AnswersArePlain = (answer : Answer) → list_all is_plain (answer_fields answer) ≡ true

-- a plain effect is printed in plain fields
abbrev pub EffectsArePlain : Type 0
EffectsArePlain = (effect : Effect) → is_plain_effect effect ≡ true → list_all is_plain (effect_fields effect) ≡ true

-- what a read of a channel is answered is printed in plain fields, where it is plain
abbrev pub ReceivedArePlain : Type 0
ReceivedArePlain = (received : Received HandOver) → is_plain_received received ≡ true → list_all is_plain (received_fields received) ≡ true

-- a printed line of plain fields is the first of the lines of a text that begins with it
abbrev pub LinesAreFound : Type 0
LinesAreFound = (number : ℕ) (parts : List (List ℕ)) (rest : List ℕ) → list_all is_plain parts ≡ true
    → lines (line number parts ++ rest) ≡ (decimal number ++ row parts) ∷ lines rest

-- and its fields are the number and those fields
abbrev pub FieldsAreFound : Type 0
FieldsAreFound = (number : ℕ) (parts : List (List ℕ)) → list_all is_plain parts ≡ true
    → fields (decimal number ++ row parts) ≡ decimal number ∷ parts

-- the lines of a turn, each by its fields behind the event's number
abbrev pub turn_rows : Turn → List (List (List ℕ))
turn_rows turn = answer_fields turn.answer ∷ map effect_fields turn.effects

-- the lines of a text that begins with a printed turn are the turn's and then those of the rest
abbrev pub TurnsAreFound : Type 0
TurnsAreFound = (number : ℕ) (turn : Turn) (rest : List ℕ) → list_all is_plain_effect turn.effects ≡ true
    → lines (turn_text number turn ++ rest) ≡ map (λ parts. decimal number ++ row parts) (turn_rows turn) ++ lines rest
