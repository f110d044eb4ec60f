-- The errors of a run, from those of its parts, and the statuses that stand for them.
use Rattle.std.specs.Prelude.{ℕ, List, codes, decimal, ◌++◌, [], ◌∷◌}
use Rattle.zs_lines.specs.declared.reader.LineError.{LineError}
use Rattle.zs_lines.specs.declared.reader.LineError.TheVariants.{ReadFault as read_fault, LineTooLong as long_line, OutOfTurns as out_of_turns, NoMemory as no_memory}
use Rattle.zs_driving.specs.declared.errors.DriveError.{DriveError}
use Rattle.zs_driving.specs.declared.errors.DriveError.TheVariants.{ReadFault, WriteFault, BadLine, LineTooLong, OutOfTurns, NoMemory}

-- a reader's error as that of the run
abbrev pub drive_error : LineError → DriveError
drive_error read_fault = ReadFault
drive_error (long_line number) = LineTooLong number
drive_error out_of_turns = OutOfTurns
drive_error no_memory = NoMemory

-- the exit status for an error
abbrev pub status_of : DriveError → ℕ
status_of (BadLine number) = 3
status_of (LineTooLong number) = 4
status_of OutOfTurns = 5
status_of ReadFault = 6
status_of WriteFault = 7
status_of NoMemory = 8

-- the line on standard error for an error
abbrev pub complaint_of : DriveError → List ℕ
complaint_of (BadLine number) = codes "BadLine " ++ decimal number ++ 10 ∷ []
complaint_of (LineTooLong number) = codes "LineTooLong " ++ decimal number ++ 10 ∷ []
complaint_of OutOfTurns = codes "OutOfTurns\n"
complaint_of ReadFault = codes "ReadFault\n"
complaint_of WriteFault = codes "WriteFault\n"
complaint_of NoMemory = codes "NoMemory\n"
