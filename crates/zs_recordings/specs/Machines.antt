-- What the machines that record and replay stand for.
use Rattle.std.specs.Prelude.{◌≡◌, ℕ, ◌<◌, ◌^◌, ◌==◌, Bool, true, ◌||◌, List, [], ◌∷◌, ◌++◌, length, Option}
use Rattle.std.specs.Str.{bytes_eq, is_utf8}
use Rattle.std.specs.String.{string_bytes}
use Rattle.zs_driving.specs.Tasks.{Rules}
use Rattle.zs_driving.specs.Languages.{events_of, rules_of}
use Rattle.zs_events.specs.declared.event.Event.{Event}
use Rattle.zs_core.specs.Types.{Settings}
use Rattle.zs_core.specs.Effects.{effects}
use Rattle.zs_core.specs.Stands.{Stands}
use Rattle.zs_core.specs.World.{World}
use Rattle.zs_recordings.specs.Entries.{entry_text}
use Rattle.zs_recordings.specs.Recording.{record_language}
use Rattle.zs_recordings.specs.Replaying.{RecordingLine, Said, Heard, Group, replay_language, groups_of, is_headless, group_events, last_heard, last_rows, earlier_other, or_place, place_unless, with_line}
use Rattle.zs_recordings.specs.declared.recorder.Recorder.{Recorder}
use Rattle.zs_recordings.specs.declared.replayer.Replayer.{Replayer}

-- an event was taken: whatever history the session stood for, what is recorded of it was added, which is UTF-8 text, and it
-- stands for that history with the event
pub record Records (e : Event) (number : ℕ) (old new : World) (before after : List ℕ) : Type 0 where
  pub text : (s : Settings) (h : List Event) → Stands old s h → after ≡ before ++ entry_text number e (effects s h e)
  pub utf8 : (s : Settings) (h : List Event) → Stands old s h → is_utf8 (entry_text number e (effects s h e)) ≡ true
  pub stands : (s : Settings) (h : List Event) → Stands old s h → Stands new s (e ∷ h)

-- what was put out for rows, the newest first, is UTF-8 text, row by row
abbrev pub AreRowTexts : Rules → List (List ℕ) → Type 0
AreRowTexts r [] = Unit {0}
AreRowTexts r (row ∷ h) = (is_utf8 (r.line_text h row) ≡ true) × AreRowTexts r h

-- and so is what was put out for the end behind them
pub record AllAreTexts (r : Rules) (h : List (List ℕ)) : Type 0 where
  pub last : is_utf8 (r.end_text h) ≡ true
  pub rows : AreRowTexts r h

-- it records by these rules, and took these rows, the newest first: each was an event, the session stands for them, and
-- what was put out for them is text
pub record IsBehind (machine : Recorder) (r : Rules) (h : List (List ℕ)) : Type 0 where
  pub settings : Settings
  pub rules : r ≡ rules_of (record_language settings)
  pub each : length (events_of (record_language settings) h) ≡ length h
  pub stands : Stands machine.state settings (events_of (record_language settings) h)
  pub texts : AreRowTexts r h

-- a replayer stands behind groups: its session for their events, and it knows of them what it is to answer
pub record Follows (machine : Replayer) (s : Settings) (groups : List Group) : Type 0 where
  pub stands : Stands machine.state s (group_events groups)
  pub count : machine.count ≡ length groups
  pub small : machine.count < 2 ^ 64
  pub heard : machine.heard.items ≡ last_heard groups
  pub rows : string_bytes machine.rows ≡ last_rows s groups
  pub other : machine.other ≡ earlier_other s groups

-- the first event of which something else was recorded, as it knows
abbrev pub other_in : Replayer → Option ℕ
other_in machine = or_place machine.other (place_unless (bytes_eq machine.heard.items (string_bytes machine.rows)) machine.count)

-- a line was taken: whatever groups the replayer stood behind, it stands behind them with the line, and it is headless
-- where it was, or where the line is of a turn and no event was taken
abbrev pub marked_by : RecordingLine → Replayer → Bool
marked_by (Said e) old = old.headless
marked_by (Heard row) old = old.headless || (old.count == 0)

pub record Plays (line : RecordingLine) (old new : Replayer) : Type 0 where
  pub follows : (s : Settings) (groups : List Group) → Follows old s groups → Follows new s (with_line line groups)
  pub headless : new.headless ≡ marked_by line old

-- it replays by these rules, and took these rows, the newest first
pub record HasPlayed (machine : Replayer) (r : Rules) (h : List (List ℕ)) : Type 0 where
  pub settings : Settings
  pub rules : r ≡ rules_of (replay_language settings)
  pub headless : machine.headless ≡ is_headless (events_of (replay_language settings) h)
  pub follows : Follows machine settings (groups_of (events_of (replay_language settings) h))
