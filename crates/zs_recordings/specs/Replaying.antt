-- Recordings that are played again: what was recorded of each event, and whether it is what the event comes to.
use Rattle.std.specs.Prelude.{ℕ, ◌≡◌, ◌+◌, Bool, true, false, ◌||◌, List, [], ◌∷◌, ◌++◌, length, Option, Some, None, is_some, option_map, Result, Ok, Err, OnOk, codes, decimal, if◌then◌else◌}
use Rattle.std.specs.Str.{bytes_eq}
use Rattle.zs_driving.specs.declared.errors.DriveError.{DriveError}
use Rattle.zs_driving.specs.declared.errors.DriveError.TheVariants.{BadLine}
use Rattle.zs_keys.specs.Stream.{PutsOn}
use Rattle.zs_driving.specs.declared.driving.Driven.{Driven}
use Rattle.zs_driving.specs.Driving.{Drives, Completes, Supply, Outlet}
use Rattle.zs_driving.specs.Languages.{Language, events_of, rules_of}
use Rattle.zs_driving.specs.Tasks.{Task, task_of, lines_behind}
use Rattle.zs_events.specs.declared.event.Event.{Event}
use Rattle.zs_core.specs.Types.{Settings}
use Rattle.zs_core.specs.Effects.{effects}
use Rattle.zs_parts.specs.Symbols.{after_prefix}
use Rattle.zs_recordings.specs.Entries.{turn_rows, session_of}
use Rattle.zs_recordings.specs.declared.replayed.Replayed.{Replayed}
use Rattle.zs_recordings.specs.declared.replayed.Replayed.TheVariants.{Same, Differs}

-- a line of a recording: an event, or a line of what came of it
pub data RecordingLine : Type 0 where
  Said : Event → RecordingLine
  Heard : List ℕ → RecordingLine

-- by what stands in a row behind `>` and a tab, if that is its front, and behind `<` and a tab
abbrev pub line_by : Option (List ℕ) → Option (List ℕ) → List ℕ → Option RecordingLine
line_by (Some rest) other row = option_map Said (session_of rest)
line_by None (Some rest) row = Some (Heard row)
line_by None None row = None

-- the line that a row is: behind `>` and a tab the line of an event, and behind `<` and a tab any bytes
abbrev pub recording_line : List ℕ → Option RecordingLine
recording_line row = line_by (after_prefix (codes ">\t") row) (after_prefix (codes "<\t") row) row

-- an event, and the bytes of the lines that were recorded of it
pub record Group : Type 0 where
  pub event : Event
  pub heard : List ℕ

-- the groups with one line more, the newest group first; a line of no event is passed over
abbrev pub with_heard : List ℕ → List Group → List Group
with_heard row [] = []
with_heard row (g ∷ older) = record { event = g.event; heard = g.heard ++ (row ++ codes "\n") } ∷ older

abbrev pub with_line : RecordingLine → List Group → List Group
with_line (Said e) groups = record { event = e; heard = [] } ∷ groups
with_line (Heard row) groups = with_heard row groups

-- the groups of lines, the newest first in both
abbrev pub groups_of : List RecordingLine → List Group
groups_of [] = []
groups_of (line ∷ h) = with_line line (groups_of h)

-- whether a line of some event's turn stands before all events
abbrev pub is_empty : List Group → Bool
is_empty [] = true
is_empty (g ∷ older) = false

abbrev pub is_headless : List RecordingLine → Bool
is_headless [] = false
is_headless (Said e ∷ h) = is_headless h
is_headless (Heard row ∷ h) = is_headless h || is_empty (groups_of h)

-- the events of groups, the newest first in both
abbrev pub group_events : List Group → List Event
group_events [] = []
group_events (g ∷ older) = g.event ∷ group_events older

-- what was recorded of the newest event, and what comes of it behind the older ones
abbrev pub last_heard : List Group → List ℕ
last_heard [] = []
last_heard (g ∷ older) = g.heard

abbrev pub last_rows : Settings → List Group → List ℕ
last_rows s [] = []
last_rows s (g ∷ older) = turn_rows (length older + 1) (effects s (group_events older) g.event)

-- a place, or else another one
abbrev pub or_place : Option ℕ → Option ℕ → Option ℕ
or_place (Some place) other = Some place
or_place None other = other

-- the place of an event, unless what was recorded of it is what comes of it
abbrev pub place_unless : Bool → ℕ → Option ℕ
place_unless true place = None
place_unless false place = Some place

-- the first event, from 1, of which something else was recorded than what comes of it
abbrev pub first_other : Settings → List Group → Option ℕ
first_other s [] = None
first_other s (g ∷ older) =
    or_place (first_other s older) (place_unless (bytes_eq (last_heard (g ∷ older)) (last_rows s (g ∷ older))) (length (g ∷ older)))

-- the same but for the newest event
abbrev pub earlier_other : Settings → List Group → Option ℕ
earlier_other s [] = None
earlier_other s (g ∷ older) = first_other s older

-- what a recording of so many events is, given the first of which it says something else
abbrev pub replayed_by : Option ℕ → ℕ → Replayed
replayed_by None count = Same count
replayed_by (Some place) count = Differs place

abbrev pub replayed : Settings → List RecordingLine → Replayed
replayed s h = replayed_by (first_other s (groups_of h)) (length (groups_of h))

-- how that is printed
abbrev pub replayed_text : Replayed → List ℕ
replayed_text (Same count) = codes "same\t" ++ (decimal count ++ codes "\n")
replayed_text (Differs place) = codes "differs\t" ++ (decimal place ++ codes "\n")

-- what is printed at the end: nothing where a line stands before all events
abbrev pub verdict_text : Settings → List RecordingLine → List ℕ
verdict_text s h = if is_headless h then [] else replayed_text (replayed s h)

-- the language of recordings: nothing is printed for a line
abbrev pub replay_language : Settings → Language RecordingLine
replay_language s = record {
  event_of = recording_line;
  event_text = λ h line. [];
  end_text = verdict_text s;
}

-- what a run that replays is to do
abbrev pub replay_task : Settings → Task
replay_task s = task_of (λ row. is_some (recording_line row)) (rules_of (replay_language s)) s.line_max s.turns

-- the lines that rows are, the newest first
abbrev pub lines_back : Settings → List (List ℕ) → List RecordingLine
lines_back s rows = events_of (replay_language s) (lines_behind [] rows)

-- what is answered for a whole recording: the first line of one that begins with no event is a bad line
abbrev pub answer_for : Settings → List RecordingLine → Result Replayed DriveError
answer_for s h = if is_headless h then Err (BadLine 1) else Ok (replayed s h)

-- The source and the sink are as a run leaves them that takes all lines of a recording. Where it came to its end, this is
-- what is answered for them, and else its error is.
pub record Replays (s : Settings) (answer : Result Replayed DriveError) (before after : Supply) (from to : Outlet) : Type 0 where
  pub run : Result Driven DriveError
  pub drives : Drives (replay_task s) (λ rows. OnOk run (answer ≡ answer_for s (lines_back s rows))) run before after from to (λ output. PutsOn from.written output to.written)
  pub completes : Completes (replay_task s) run before after from to
  pub stopped : (error : DriveError) → run ≡ Err error → answer ≡ Err error
