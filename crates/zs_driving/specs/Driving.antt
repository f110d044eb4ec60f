-- What one run over lines says of its source, its sink and its answer.
use Rattle.std.specs.Prelude.{◌≡◌, ◌≢◌, ℕ, ◌+◌, ◌<◌, ◌≤◌, Bool, true, false, if◌then◌else◌, List, [], ◌∷◌, ◌++◌, length, Option, Some, None, Result, Err, IfOk}
use Rattle.std.specs.List.{AllByRecursion}
use Rattle.std.specs.Result.{IsOkUnless}
use Rattle.zs_keys.specs.Stream.{HasRisen, TakesOff, PutsOn, count_after}
use Rattle.zs_lines.specs.Lines.{lines}
use Rattle.zs_lines.specs.Reading.{IsSpent}
use Rattle.zs_driving.specs.declared.driving.Driven.{Driven}
use Rattle.zs_driving.specs.declared.errors.DriveError.{DriveError}
use Rattle.zs_driving.specs.declared.errors.DriveError.TheVariants.{ReadFault, WriteFault, BadLine, LineTooLong, OutOfTurns, NoMemory}
use Rattle.zs_driving.specs.Tasks.{Task, is_good}

-- a source as a run finds or leaves it: the bytes that it holds, where it tells them, and its counts
pub record Supply : Type 0 where
  pub left : Option (List ℕ)
  pub reads : ℕ
  pub pieces : ℕ
  pub faults : ℕ

-- a sink as a run finds or leaves it: the bytes that it took, where it tells them, and its count
pub record Outlet : Type 0 where
  pub written : Option (List ℕ)
  pub faults : ℕ

-- each of the lines is taken, and short enough
abbrev pub AreGood : Task → List (List ℕ) → Type 0
AreGood t rows = AllByRecursion (λ row. is_good t row ≡ true) rows

-- The run came to its end: `input` is what the source gave, which holds nothing now. Each line was taken, and what was
-- put out is what the task asks for all of them and the end. That holds of the machine then.
pub record IsDone (t : Task) (left left' : Option (List ℕ)) (Puts : List ℕ → Type 0) (Closed : List (List ℕ) → Type 0) (count : ℕ) : Type 0 where
  pub input : List ℕ
  pub output : List ℕ
  pub source : TakesOff left input left'
  pub spent : IsSpent left left'
  pub good : AreGood t (lines input)
  pub sink : Puts output
  pub whole : output ≡ t.whole (lines input)
  pub machine : Closed (lines input)
  pub events : count ≡ length (lines input) + 1

-- an input that begins with these bytes, and is whole if its end was seen, has these lines first and goes on with that part
abbrev pub BeginsWith : List ℕ → Bool → List (List ℕ) → List ℕ → Type 0
BeginsWith gave ended rows part = (more : List ℕ) → (ended ≡ true → more ≡ []) → lines (gave ++ more) ≡ rows ++ lines (part ++ more)

-- what is put out for lines that were read, and the end behind them, if it was taken
abbrev pub read_text : Task → List (List ℕ) → Bool → List ℕ
read_text t read closed = if closed then t.whole read else t.text read

-- The source gave bytes, however they go on, of which these good lines are the first, and that part stands behind them.
pub record HasRead (t : Task) (left left' : Option (List ℕ)) (ended : Bool) (read : List (List ℕ)) (part : List ℕ) : Type 0 where
  pub gave : List ℕ
  pub source : TakesOff left gave left'
  pub spent : ended ≡ true → IsSpent left left'
  pub cut : BeginsWith gave ended read part
  pub good : AreGood t read

-- Whatever the answer, what was put out is a front of the text of the lines that were read. The end is taken only
-- behind all of them, at the end of the source.
pub record IsFront (t : Task) (left left' : Option (List ℕ)) (Puts : List ℕ → Type 0) : Type 0 where
  pub read : List (List ℕ)
  pub part : List ℕ
  pub ended : Bool
  pub closed : Bool
  pub output : List ℕ
  pub missing : List ℕ
  pub source : HasRead t left left' ended read part
  pub all : closed ≡ true → (ended ≡ true) × (part ≡ [])
  pub sink : Puts output
  pub front : output ++ missing ≡ read_text t read closed

-- an input that goes on with this part has such a line next
abbrev pub NextIs : List ℕ → Bool → (List ℕ → Type 0) → Type 0
NextIs part ended IsSuch = (more : List ℕ) → (ended ≡ true → more ≡ [])
    → (row : List ℕ) × (unread : List (List ℕ)) × (lines (part ++ more) ≡ row ∷ unread) × IsSuch row

-- The line of this number is the first that is no good line, it is such a one, and the text of the lines before it was
-- put out, and nothing else.
pub record StopsAt (t : Task) (left left' : Option (List ℕ)) (Puts : List ℕ → Type 0) (number : ℕ) (IsCause : List ℕ → Type 0) : Type 0 where
  pub read : List (List ℕ)
  pub part : List ℕ
  pub ended : Bool
  pub source : HasRead t left left' ended read part
  pub place : number ≡ length read + 1
  pub cause : NextIs part ended IsCause
  pub sink : Puts (t.text read)

-- a line that is short enough and is not taken
abbrev pub IsNoLine : Task → List ℕ → Type 0
IsNoLine t row = (length row ≤ t.line_max) × (t.is_line row ≡ false)

-- a line that is too long
abbrev pub IsLong : Task → List ℕ → Type 0
IsLong t row = t.line_max < length row

-- as many reads were made as there may be, and each gave bytes: so none failed, and none saw the end
pub record HasSpentTurns (turns : ℕ) (before after : Supply) : Type 0 where
  pub made : after.reads ≡ count_after before.reads turns
  pub each : after.pieces ≡ count_after before.pieces turns
  pub bytes : (gave : List ℕ) × TakesOff before.left gave after.left × (turns ≤ length gave)

-- each read but the last gave bytes, and the last one saw the end: so none failed
pub record HasReadAll (before after : Supply) : Type 0 where
  pub count : ℕ
  pub made : after.reads ≡ count_after before.reads (count + 1)
  pub each : after.pieces ≡ count_after before.pieces count

-- a run that answers no fault met none: none was swallowed
abbrev pub IsCalm : Result Driven DriveError → Supply → Supply → Outlet → Outlet → Type 0
IsCalm r before after from to = r ≢ Err ReadFault → r ≢ Err WriteFault → (after.faults ≡ before.faults) × (to.faults ≡ from.faults)

-- What every run says, where that is what it says at its end: of what was put out at whatever exit, and the cause of
-- each error but want of memory.
pub record DrivesTo (t : Task) (IsEnd : ℕ → Type 0) (r : Result Driven DriveError) (before after : Supply) (from to : Outlet) (Puts : List ℕ → Type 0) : Type 0 where
  pub done : IfOk r (λ driven. IsEnd driven.events)
  pub all_read : IfOk r (λ driven. HasReadAll before after)
  pub front : IsFront t before.left after.left Puts
  pub bad_line : (number : ℕ) → r ≡ Err (BadLine number) → StopsAt t before.left after.left Puts number (IsNoLine t)
  pub long_line : (number : ℕ) → r ≡ Err (LineTooLong number) → StopsAt t before.left after.left Puts number (IsLong t)
  pub out_of_turns : r ≡ Err OutOfTurns → HasSpentTurns t.turns before after
  pub few_reads : after.pieces ≤ before.pieces + t.turns
  pub read_fault : r ≡ Err ReadFault → HasRisen before.faults after.faults
  pub write_fault : r ≡ Err WriteFault → HasRisen from.faults to.faults
  pub source_later : before.faults ≤ after.faults
  pub sink_later : from.faults ≤ to.faults
  pub calm : IsCalm r before after from to

-- What every run by a machine says, where `Closed` holds of the machine that took all lines and the end.
abbrev pub Drives : Task → (List (List ℕ) → Type 0) → Result Driven DriveError → Supply → Supply → Outlet → Outlet → (List ℕ → Type 0) → Type 0
Drives t Closed r before after from to Puts = DrivesTo t (IsDone t before.left after.left Puts Closed) r before after from to Puts

-- an input that a run gets through, unless memory runs out or the source or the sink fails
abbrev pub IsValid : Task → List ℕ → Type 0
IsValid t input = AreGood t (lines input) × (length input < t.turns)

-- a run over such an input without a fault ends well, or for want of memory
abbrev pub Completes : Task → Result Driven DriveError → Supply → Supply → Outlet → Outlet → Type 0
Completes t r before after from to = (input : List ℕ) → before.left ≡ Some input → IsValid t input
    → ¬ HasRisen before.faults after.faults → ¬ HasRisen from.faults to.faults → IsOkUnless r NoMemory

-- the output was put out, but for what waits at its end
abbrev pub PutsWaiting : Option (List ℕ) → List ℕ → Option (List ℕ) → List ℕ → Type 0
PutsWaiting old waiting new output = (front : List ℕ) × (output ≡ front ++ waiting) × PutsOn old front new
