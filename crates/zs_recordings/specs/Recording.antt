-- The recording of a script.
use Rattle.std.specs.Prelude.{ℕ, ◌≡◌, ◌+◌, true, is_some, List, [], ◌∷◌, ◌++◌, length, Option, Result}
use Rattle.std.specs.List.{filter_map}
use Rattle.std.specs.Str.{is_utf8}
use Rattle.zs_keys.specs.Stream.{PutsOn, TakesOff}
use Rattle.zs_lines.specs.Lines.{lines}
use Rattle.zs_lines.specs.Reading.{IsSpent}
use Rattle.zs_driving.specs.Languages.{Language, rules_of}
use Rattle.zs_driving.specs.Tasks.{Task, task_of}
use Rattle.zs_driving.specs.Driving.{AreGood, Completes, DrivesTo, Outlet, Supply}
use Rattle.zs_driving.specs.declared.driving.Driven.{Driven}
use Rattle.zs_driving.specs.declared.errors.DriveError.{DriveError}
use Rattle.zs_events.specs.declared.event.Event.{Event}
use Rattle.zs_events.specs.declared.event.Event.TheVariants.{Close}
use Rattle.zs_core.specs.Types.{Settings}
use Rattle.zs_core.specs.Effects.{effects}
use Rattle.zs_recordings.specs.Entries.{entry_text, recorded_of}

-- what is recorded of events behind others, which are the newest first: of each, under its number from 1
abbrev pub recording_after : Settings → List Event → List Event → List ℕ
recording_after s h [] = []
recording_after s h (e ∷ es) = entry_text (length h + 1) e (effects s h e) ++ recording_after s (e ∷ h) es

-- the recording of events from the first one on
abbrev pub recording : Settings → List Event → List ℕ
recording s es = recording_after s [] es

-- what is recorded of each of these, behind others, is UTF-8 text
abbrev pub AreTexts : Settings → List Event → List Event → Type 0
AreTexts s h [] = Unit {0}
AreTexts s h (e ∷ es) = (is_utf8 (entry_text (length h + 1) e (effects s h e)) ≡ true) × AreTexts s (e ∷ h) es

-- the events of a script's lines, and the close at its end
abbrev pub recorded_script : List ℕ → List Event
recorded_script input = filter_map recorded_of (lines input) ++ Close ∷ []

-- the language of scripts that are recorded
abbrev pub record_language : Settings → Language Event
record_language s = record {
  event_of = recorded_of;
  event_text = λ h e. entry_text (length h + 1) e (effects s h e);
  end_text = λ h. entry_text (length h + 1) Close (effects s h Close);
}

-- what a run that records is to do
abbrev pub record_task : Settings → Task
record_task s = task_of (λ row. is_some (recorded_of row)) (rules_of (record_language s)) s.line_max s.turns

-- The run came to its end: `input` is what the source gave, which holds nothing now. Each line was an event that can be
-- recorded, and what was put out is the recording of the script, which is text.
pub record IsRecorded (s : Settings) (left left' : Option (List ℕ)) (Puts : List ℕ → Type 0) (count : ℕ) : Type 0 where
  pub input : List ℕ
  pub output : List ℕ
  pub source : TakesOff left input left'
  pub spent : IsSpent left left'
  pub good : AreGood (record_task s) (lines input)
  pub sink : Puts output
  pub whole : output ≡ recording s (recorded_script input)
  pub texts : AreTexts s [] (recorded_script input)
  pub events : count ≡ length (lines input) + 1

-- The source and the sink are as a run leaves them that records, and this is what it answers.
pub record Recorded (s : Settings) (answer : Result Driven DriveError) (before after : Supply) (from to : Outlet) : Type 0 where
  pub drives : DrivesTo (record_task s) (IsRecorded s before.left after.left (λ output. PutsOn from.written output to.written)) answer before after from to (λ output. PutsOn from.written output to.written)
  pub completes : Completes (record_task s) answer before after from to
