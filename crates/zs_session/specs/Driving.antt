-- What one run over a script says of its source, its sink and its answer.
use Rattle.std.specs.Prelude.{◌≡◌, ℕ, ◌+◌, is_some, List, [], ◌∷◌, ◌++◌, length, Option, Result}
use Rattle.zs_keys.specs.Stream.{TakesOff}
use Rattle.zs_lines.specs.Lines.{lines}
use Rattle.zs_lines.specs.Reading.{IsSpent}
use Rattle.zs_driving.specs.declared.driving.Driven.{Driven}
use Rattle.zs_driving.specs.declared.errors.DriveError.{DriveError}
use Rattle.zs_driving.specs.Tasks.{Task}
use Rattle.zs_driving.specs.Driving.{AreGood, DrivesTo, Outlet, Supply, Completes as CompletesTask}
use Rattle.zs_events.specs.declared.event.Event.TheVariants.{Close}
use Rattle.zs_events.specs.declared.script_event.ScriptEvent.TheVariants.{Core}
use Rattle.zs_core.specs.Types.{Settings}
use Rattle.zs_grammar.specs.Grammar.{event_of}
use Rattle.zs_session.specs.Script.{events_of, script, text}
use Rattle.zs_session.specs.Telling.{Told, told}

-- what a run over a script is to do: its lines are events, and what it puts out is the text of those that it took
abbrev pub task : Settings → Task
task s = record {
  is_line = λ row. is_some (event_of row);
  text = λ rows. text s (events_of rows);
  whole = λ rows. text s (events_of rows ++ Core Close ∷ []);
  line_max = s.line_max;
  turns = s.turns;
}

-- The run came to its end: `input` is what the source gave, which holds nothing now. Each line was an event, and what
-- was put out is the text of the script, which tells the script.
pub record IsDone (s : Settings) (left left' : Option (List ℕ)) (Puts : List ℕ → Type 0) (count : ℕ) : Type 0 where
  pub input : List ℕ
  pub output : List ℕ
  pub source : TakesOff left input left'
  pub spent : IsSpent left left'
  pub good : AreGood (task s) (lines input)
  pub sink : Puts output
  pub whole : output ≡ text s (script input)
  pub tells : Told s (script input) (told output)
  pub events : count ≡ length (lines input) + 1

-- What every run says: of its end, of what was put out at whatever exit, and the cause of each error.
abbrev pub Drives : Settings → Result Driven DriveError → Supply → Supply → Outlet → Outlet → (List ℕ → Type 0) → Type 0
Drives s r before after from to Puts = DrivesTo (task s) (IsDone s before.left after.left Puts) r before after from to Puts

-- a run over a script whose lines are events, and short enough, without a fault ends well, or for want of memory
abbrev pub Completes : Settings → Result Driven DriveError → Supply → Supply → Outlet → Outlet → Type 0
Completes s r before after from to = CompletesTask (task s) r before after from to
