use Rattle.std.proofs.Common.{◌≡◌, List}
use Rattle.std.specs.Prelude.{Result, Ok, Err, OnOk}
use Rattle.zs_driving.specs.declared.driving.Driven.{Driven}
use Rattle.zs_driving.specs.declared.errors.DriveError.{DriveError}
use Rattle.zs_core.specs.Types.{Settings}
use Rattle.zs_recordings.specs.Machines.{Follows}
use Rattle.zs_recordings.specs.Replaying.{RecordingLine, answer_for, groups_of, is_headless}
use Rattle.zs_recordings.specs.declared.replayed.Replayed.{Replayed}
use Rattle.zs_recordings.specs.declared.replayer.Replayer.{Replayer}
use Rattle.zs_recordings.proofs.Played.{settings_are, played_none, replays_recording}
use Rattle.zs_recordings.proofs.driving.drive_replayer.Goals as goal

-- what holds of all settings where a run came to its end holds there of each
each_done : (run : Result Driven DriveError) (new : Replayer) (answer : Result Replayed DriveError)
    → OnOk run ((s : Settings) (h : List RecordingLine) → Follows new s (groups_of h) → new.headless ≡ is_headless h → answer ≡ answer_for s h)
    → (s : Settings) (h : List RecordingLine) → Follows new s (groups_of h) → new.headless ≡ is_headless h → OnOk run (answer ≡ answer_for s h)
each_done (Ok driven) new answer done s h follows headless = done s h follows headless
each_done (Err error) new answer done s h follows headless = tt

pub drive_lines-driven-requires : goal.drive_lines-driven-requires
drive_lines-driven-requires g c = played_none c.args.replayer.now c.args.settings.now c.requires.follows c.requires.headless

pub returns : goal.returns
returns g c =
    replays_recording c.args.settings.now c.args.replayer.now.state.settings c.drive_lines-driven.new.machine c.drive_lines-driven.result c.answer_of.result _ _ _ _
    (settings_are c.args.replayer.now.state c.args.settings.now c.requires.follows.stands) c.drive_lines-driven.ensures.drives
    c.drive_lines-driven.ensures.completes
    (each_done c.drive_lines-driven.result c.drive_lines-driven.new.machine c.answer_of.result c.answer_of.ensures.done) c.answer_of.ensures.stopped
