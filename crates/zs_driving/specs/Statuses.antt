-- What a program of lines says of a run where it ends: its status stands for the answer, and its complaint is the one
-- for it.
use Rattle.std.specs.Prelude.{◌≡◌, ℕ, List, Result, Ok, Err}
use Rattle.zs_keys.specs.Stream.{HasRisen, PutsOn}
use Rattle.zs_lines.specs.Writing.{PutsFrontOn}
use Rattle.zs_driving.specs.declared.driving.Driven.{Driven}
use Rattle.zs_driving.specs.declared.errors.DriveError.{DriveError}
use Rattle.zs_driving.specs.Tasks.{Task}
use Rattle.zs_driving.specs.Driving.{Completes, DrivesTo, Outlet, Supply}
use Rattle.zs_driving.specs.Errors.{status_of, complaint_of}

-- a sink of complaints took a front of the line, and the whole line where its count of faults did not rise
abbrev pub Complains : Outlet → Outlet → List ℕ → Type 0
Complains old new line = PutsFrontOn old.written line new.written × (¬ HasRisen old.faults new.faults → PutsOn old.written line new.written)

-- the status for an answer of the drive
abbrev pub status_for : Result Driven DriveError → ℕ
status_for (Ok driven) = 0
status_for (Err error) = status_of error

-- the complaint for an answer of the drive: none where it came to its end
abbrev pub ComplainsOf : Result Driven DriveError → Outlet → Outlet → Type 0
ComplainsOf (Ok driven) old new = new ≡ old
ComplainsOf (Err error) old new = Complains old new (complaint_of error)

-- a status stands for an answer that a run gives over that source and that sink, where that is what it says at its end
pub record RunsTo (t : Task) (IsEnd : ℕ → Type 0) (status : ℕ) (before after : Supply) (from to heard heard' : Outlet) : Type 0 where
  pub answer : Result Driven DriveError
  pub status_is : status ≡ status_for answer
  pub drives : DrivesTo t IsEnd answer before after from to (λ output. PutsOn from.written output to.written)
  pub completes : Completes t answer before after from to
  pub complains : ComplainsOf answer heard heard'
