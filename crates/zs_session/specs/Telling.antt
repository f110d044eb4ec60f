-- What an output tells of refusals and of hand-overs to subscribers, and what it has to tell of a script.
use Rattle.std.specs.Prelude.{◌≡◌, ℕ, ◌+◌, Bool, false, ◌&&◌, ◌||◌, List, [], ◌∷◌, ◌++◌, length, map, filter, Option, Some, None, bytes_eq, codes, decimal}
use Rattle.zs_events.specs.declared.event.Event.{Event}
use Rattle.zs_events.specs.declared.script_event.ScriptEvent.{ScriptEvent}
use Rattle.zs_events.specs.declared.script_event.ScriptEvent.TheVariants.{Core, Recv}
use Rattle.zs_core.specs.Types.{Settings}
use Rattle.zs_events.specs.declared.turn.Answer.TheVariants.{Refused}
use Rattle.zs_events.specs.declared.turn.Effect.TheVariants.{Hand}
use Rattle.zs_events.specs.declared.turn.HandOver.TheVariants.{Sample}
use Rattle.zs_events.specs.declared.turn.Kind.TheVariants.{Subscriber}
use Rattle.zs_events.specs.declared.turn.Refusal.{Refusal}
use Rattle.zs_core.specs.Publications.{Publication, allows}
use Rattle.zs_core.specs.Entry.{Entry}
use Rattle.zs_core.specs.HeldKeys.{named_text}
use Rattle.zs_core.specs.Live.{live_subs, live_pubs}
use Rattle.zs_core.specs.Causes.{refusal_of}
use Rattle.zs_core.specs.Past.{past_of}
use Rattle.zs_core.specs.Effects.{publication_of}
use Rattle.zs_lines.specs.Lines.{lines, fields}
use Rattle.zs_printing.specs.Printing.{answer_fields, effect_fields}
use Rattle.zs_script.specs.Laws.{row}
use Rattle.zs_session.specs.Heard.{core_of}
use Rattle.zs_session.specs.Opened.{plain_refusal}

-- a printed line without its line feed
abbrev pub plain_line : ℕ → List (List ℕ) → List ℕ
plain_line number parts = decimal number ++ row parts

-- fields that go on with `sub`
abbrev pub is_for_sub : List (List ℕ) → Bool
is_for_sub [] = false
is_for_sub (kind ∷ more) = bytes_eq kind (codes "sub")

-- the fields behind a line's number tell of a refusal, or of a hand-over to a subscriber
abbrev pub tells : List (List ℕ) → Bool
tells [] = false
tells (word ∷ more) = bytes_eq word (codes "refused") || (bytes_eq word (codes "hand") && is_for_sub more)

-- so does a line
abbrev pub tells_behind : List (List ℕ) → Bool
tells_behind [] = false
tells_behind (number ∷ more) = tells more

abbrev pub is_telling : List ℕ → Bool
is_telling line = tells_behind (fields line)

-- the lines of an output that tell of refusals and of hand-overs to subscribers
abbrev pub told : List ℕ → List (List ℕ)
told output = filter is_telling (lines output)

-- the publication that an event is at its moment, if it is one
abbrev pub published : List Entry → Event → Option Publication
published past e = publication_of (live_pubs past) (named_text past e) e

-- one line for each live subscriber whose locality and key allow the publication, in ascending number
abbrev pub hand_lines : List Entry → ℕ → Option Publication → List (List ℕ)
hand_lines past number None = []
hand_lines past number (Some p) =
    map (λ hearer. plain_line number (effect_fields (Hand (Sample Subscriber hearer.id p.sample)))) (filter (allows p) (live_subs past))

-- the line of a refusal, and nothing else, or the lines of hand-overs where there is none
abbrev pub refusal_or : ℕ → Option Refusal → List (List ℕ) → List (List ℕ)
refusal_or number (Some refusal) hands = plain_line number (answer_fields (Refused refusal)) ∷ []
refusal_or number None hands = hands

-- the lines that tell the event of that number behind these accepted events: the first refusal in order whose cause
-- holds, or, where none holds, its hand-overs
abbrev pub event_lines : Settings → List Entry → ℕ → Event → List (List ℕ)
event_lines s past number e = refusal_or number (refusal_of s past e) (hand_lines past number (published past e))

-- the lines that tell an event of a script behind a history: of a read its refusal alone, which accepted events tell
abbrev pub script_lines : Settings → List ScriptEvent → ℕ → ScriptEvent → List (List ℕ)
script_lines s h number (Core e) = event_lines s (past_of s (core_of h)) number e
script_lines s h number (Recv kind id) = refusal_or number (plain_refusal (past_of s (core_of h)) kind id) []

-- the lines that tell events behind a history, one event after the other
abbrev pub lines_after : Settings → List ScriptEvent → List ScriptEvent → List (List ℕ)
lines_after s h [] = []
lines_after s h (e ∷ es) = script_lines s h (length h + 1) e ++ lines_after s (e ∷ h) es

-- the lines are those that tell the events of a script from the first one on
abbrev pub Told : Settings → List ScriptEvent → List (List ℕ) → Type 0
Told s es told_lines = told_lines ≡ lines_after s [] es
