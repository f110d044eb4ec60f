-- Recordings are played again as what they are.
use Rattle.std.specs.Prelude.{◌≡◌, ℕ, Bool, true, is_some, List, [], ◌∷◌, ◌++◌, length, Some, Ok, if◌then◌else◌}
use Rattle.std.specs.List.{filter_map, list_all}
use Rattle.zs_lines.specs.Lines.{lines}
use Rattle.zs_driving.specs.Driving.{read_text}
use Rattle.zs_events.specs.declared.event.Event.{Event}
use Rattle.zs_events.specs.declared.event.Event.TheVariants.{Close}
use Rattle.zs_core.specs.Types.{Settings}
use Rattle.zs_core.specs.Effects.{effects}
use Rattle.zs_script.specs.Plain.{has_no_line_feed, is_plain_effect}
use Rattle.zs_event_lines.specs.Slots.{printed}
use Rattle.zs_event_lines.specs.Lines.{line_of}
use Rattle.zs_recordings.specs.Entries.{recorded_of, session_of}
use Rattle.zs_recordings.specs.Recording.{AreTexts, recording, recorded_script, record_task}
use Rattle.zs_recordings.specs.Replaying.{recording_line, lines_back, answer_for}
use Rattle.zs_recordings.specs.declared.replayed.Replayed.TheVariants.{Same}

-- the events of lines that were read, and the close behind them, if it was taken
abbrev pub read_events : List (List ℕ) → Bool → List Event
read_events rows closed = filter_map recorded_of rows ++ (if closed then Close ∷ [] else [])

-- what a run puts out for lines that it read is the recording of their events
abbrev pub RunsRecord : Type 0
RunsRecord = (s : Settings) (rows : List (List ℕ)) (closed : Bool) → read_text (record_task s) rows closed ≡ recording s (read_events rows closed)

-- an event that can be read back, behind others: its line has no line feed and says the event, and what it comes to has
-- texts without tabs and line feeds
pub record IsReadable (s : Settings) (h : List Event) (e : Event) : Type 0 where
  pub row : List ℕ
  pub line : printed (line_of e) ≡ Some row
  pub one : has_no_line_feed row ≡ true
  pub says : session_of row ≡ Some e
  pub plain : list_all is_plain_effect (effects s h e).effects ≡ true

abbrev pub AreReadable : Settings → List Event → List Event → Type 0
AreReadable s h [] = Unit {0}
AreReadable s h (e ∷ es) = IsReadable s h e × AreReadable s (e ∷ h) es

-- a text is a recording, line by line, that is played again as the same, with so many events
pub record ReplaysAs (s : Settings) (text : List ℕ) (count : ℕ) : Type 0 where
  pub good : list_all (λ row. is_some (recording_line row)) (lines text) ≡ true
  pub same : answer_for s (lines_back s (lines text)) ≡ Ok (Same count)

-- the recording of such events is played again as the same
abbrev pub RecordingsReplay : Type 0
RecordingsReplay = (s : Settings) (es : List Event) → AreReadable s [] es → ReplaysAs s (recording s es) (length es)

-- and so is that of the first of them, which is a front of it
abbrev pub FrontsReplay : Type 0
FrontsReplay = (s : Settings) (es more : List Event) → AreReadable s [] (es ++ more)
    → ((rest : List ℕ) × (recording s (es ++ more) ≡ recording s es ++ rest)) × ReplaysAs s (recording s es) (length es)

-- what comes of each of these events, behind others, has texts without tabs and line feeds
abbrev pub ArePlainTurns : Settings → List Event → List Event → Type 0
ArePlainTurns s h [] = Unit {0}
ArePlainTurns s h (e ∷ es) = (list_all is_plain_effect (effects s h e).effects ≡ true) × ArePlainTurns s (e ∷ h) es

-- the events of a script that was recorded, each line of which is one, can be read back
abbrev pub ScriptsAreReadable : Type 0
ScriptsAreReadable = (s : Settings) (input : List ℕ) → list_all (λ row. is_some (recorded_of row)) (lines input) ≡ true
    → ArePlainTurns s [] (recorded_script input) → AreTexts s [] (recorded_script input) → AreReadable s [] (recorded_script input)
