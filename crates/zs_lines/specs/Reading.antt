-- What a reader of lines is between two calls, and what one call gives.
use Rattle.std.specs.Prelude.{ℕ, ◌≡◌, ◌==◌, ◌+◌, ◌*◌, ◌≤◌, ◌<◌, Bool, true, false, List, [], ◌∷◌, ◌++◌, length, Option, Some, None, Result, Ok, Err, if◌then◌else◌}
use Rattle.std.specs.List.{position}
use Rattle.zs_keys.specs.Stream.{HoldsNothing}
use Rattle.zs_lines.specs.Lines.{lines}
use Rattle.zs_lines.specs.declared.reader.Line.{Line}
use Rattle.zs_lines.specs.declared.reader.LineError.{LineError}
use Rattle.zs_lines.specs.declared.reader.LineError.TheVariants.{ReadFault, LineTooLong, OutOfTurns, NoMemory}

pub record Reading : Type 0 where
  pub held : List ℕ  -- the bytes that were read and not given yet
  pub ended : Bool  -- whether the end of the source was seen
  pub turns : ℕ  -- how many more reads may give bytes
  pub given : ℕ  -- how many lines were given
  pub line_max : ℕ  -- how many bytes a line may have

-- the input may go on with these bytes: with none, once its end was seen
abbrev pub MayFollow : Reading → List ℕ → Type 0
MayFollow reading more = reading.ended ≡ true → more ≡ []

-- the end was seen only where the source holds nothing
abbrev pub IsAtEnd : Reading → Option (List ℕ) → Type 0
IsAtEnd reading left = reading.ended ≡ true → HoldsNothing left

-- a source that told what it held holds nothing now
abbrev pub IsSpent : Option (List ℕ) → Option (List ℕ) → Type 0
IsSpent None new = Unit {0}
IsSpent (Some held) new = new ≡ Some []

-- a call read these bytes, each turn that it took gave one of them at least, and none was read behind the end
pub record Reads (old new : Reading) (gave : List ℕ) : Type 0 where
  pub turns : new.turns ≤ old.turns
  pub bytes : old.turns ≤ length gave + new.turns
  pub behind : old.ended ≡ true → (gave ≡ []) × (new.ended ≡ true)

-- this is the first of the lines to come, whatever follows what was read, and the next in number
pub record GivesLine (old new : Reading) (gave : List ℕ) (place : ℕ) (bytes : List ℕ) : Type 0 where
  pub line : (more : List ℕ) → MayFollow new more → lines (old.held ++ (gave ++ more)) ≡ bytes ∷ lines (new.held ++ more)
  pub short : length bytes ≤ old.line_max
  pub number : place ≡ old.given + 1
  pub given : new.given ≡ old.given + 1
  pub line_max : new.line_max ≡ old.line_max

-- the first line to come has more bytes than a line may have, whatever follows what was read
abbrev pub IsTooLong : Reading → List ℕ → Type 0
IsTooLong old gave = (more : List ℕ) → (bytes : List ℕ) × (rest : List (List ℕ))
    × (lines (old.held ++ (gave ++ more)) ≡ bytes ∷ rest) × (old.line_max < length bytes)

-- what was held and what was read is held, and no line more was given
abbrev pub Keeps : Reading → Reading → List ℕ → Type 0
Keeps old new gave = (new.held ≡ old.held ++ gave) × (new.given ≡ old.given)

-- no whole line is held, and what is held is no longer than a line may be
abbrev pub HoldsNoLine : Reading → Type 0
HoldsNoLine reading = (position (λ b. b == 10) reading.held ≡ None) × (length reading.held ≤ reading.line_max)

-- what a call answers, where it read these bytes: the next line, the end of all lines, or an error with its cause, at which
-- no byte is lost
abbrev pub Answers : Reading → Reading → List ℕ → Result (Option Line) LineError → Type 0
Answers old new gave (Ok (Some line)) = GivesLine old new gave line.number line.bytes.items
Answers old new gave (Ok None) = (old.held ++ gave ≡ []) × (new.held ≡ []) × (new.ended ≡ true)
Answers old new gave (Err (LineTooLong number)) = (number ≡ old.given + 1) × IsTooLong old gave × Keeps old new gave
Answers old new gave (Err OutOfTurns) = (new.turns ≡ 0) × (new.ended ≡ false) × Keeps old new gave
Answers old new gave (Err ReadFault) = Keeps old new gave
Answers old new gave (Err NoMemory) = Keeps old new gave

-- one read gave as many bytes as it says, and none where it failed
abbrev pub GivesCount : List ℕ → Result ℕ LineError → Type 0
GivesCount gave (Ok count) = length gave ≡ count
GivesCount gave (Err error) = gave ≡ []

-- what a reader can still do: it falls at each read and at each line, whether or not the source tells what it holds
abbrev pub work : Reading → ℕ
work reading = 16385 * (if reading.ended then 0 else reading.turns + 1) + length reading.held
