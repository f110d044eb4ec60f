-- What a run of the program says.
use Rattle.std.specs.Prelude.{◌≡◌, ℕ, List, [], ◌∷◌, Option, Some, None, Result, Ok, Err, codes, if◌then◌else◌}
use Rattle.std.specs.Str.{bytes_eq}
use Rattle.zs_driving.specs.declared.errors.DriveError.{DriveError}
use Rattle.zs_driving.specs.Driving.{Outlet, Supply}
use Rattle.zs_driving.specs.Errors.{status_of, complaint_of}
use Rattle.zs_driving.specs.Statuses.{Complains, ComplainsOf, status_for}
use Rattle.zs_driving.specs.declared.driving.Driven.{Driven}
use Rattle.zs_core.specs.Settings.{default_settings}
use Rattle.zs_recordings.specs.Recording.{Recorded}
use Rattle.zs_recordings.specs.Replaying.{Replays}
use Rattle.zs_recordings.specs.declared.replayed.Replayed.{Replayed}
use Rattle.zs_recordings.specs.declared.replayed.Replayed.TheVariants.{Same, Differs}
use Rattle.zs_recordings.specs.declared.running.Mode.{Mode}
use Rattle.zs_recordings.specs.declared.running.Mode.TheVariants.{Record, Replay}

-- the complaint about words that are none of the program's
abbrev pub bad_words : List ℕ
bad_words = codes "bad words\n"

-- the one word
abbrev pub mode_named : List ℕ → Option Mode
mode_named word =
    if bytes_eq word (codes "record") then Some Record
    else if bytes_eq word (codes "replay") then Some Replay
    else None

abbrev pub mode_of : List (List ℕ) → Option Mode
mode_of (word ∷ []) = mode_named word
mode_of words = None

-- a status stands for an answer of a run that records
pub record RecordsTo (status : ℕ) (before after : Supply) (from to heard heard' : Outlet) : Type 0 where
  pub answer : Result Driven DriveError
  pub status_is : status ≡ status_for answer
  pub records : Recorded default_settings answer before after from to
  pub complains : ComplainsOf answer heard heard'

-- the status for an answer of a replay: 0 where the recording is the same, 1 where it differs
abbrev pub replay_status : Result Replayed DriveError → ℕ
replay_status (Ok (Same count)) = 0
replay_status (Ok (Differs place)) = 1
replay_status (Err error) = status_of error

-- and the complaint: none where there was no error
abbrev pub ComplainsOfReplay : Result Replayed DriveError → Outlet → Outlet → Type 0
ComplainsOfReplay (Ok replayed) old new = new ≡ old
ComplainsOfReplay (Err error) old new = Complains old new (complaint_of error)

-- a status stands for an answer of a replay
pub record ReplaysTo (status : ℕ) (before after : Supply) (from to heard heard' : Outlet) : Type 0 where
  pub answer : Result Replayed DriveError
  pub status_is : status ≡ replay_status answer
  pub replays : Replays default_settings answer before after from to
  pub complains : ComplainsOfReplay answer heard heard'
