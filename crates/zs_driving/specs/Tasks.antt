-- What a program of lines owes for the lines that it takes.
use Rattle.std.specs.Prelude.{ℕ, Bool, ◌&&◌, nat_le, List, [], ◌∷◌, ◌++◌, length}

-- the texts that a program owes, each by the lines before, the newest first: that of a line, and that of the end of input
pub record Rules : Type 0 where
  pub line_text : List (List ℕ) → List ℕ → List ℕ
  pub end_text : List (List ℕ) → List ℕ

-- lines behind others, the newest first
abbrev pub lines_behind : List (List ℕ) → List (List ℕ) → List (List ℕ)
lines_behind h [] = h
lines_behind h (row ∷ rows) = lines_behind (row ∷ h) rows

-- what is put out for lines behind others
abbrev pub text_behind : Rules → List (List ℕ) → List (List ℕ) → List ℕ
text_behind r h [] = []
text_behind r h (row ∷ rows) = r.line_text h row ++ text_behind r (row ∷ h) rows

-- what is put out for lines from the first one on
abbrev pub lines_text : Rules → List (List ℕ) → List ℕ
lines_text r rows = text_behind r [] rows

-- what is put out for all lines of an input and its end
abbrev pub closed_text : Rules → List (List ℕ) → List ℕ
closed_text r rows = lines_text r rows ++ r.end_text (lines_behind [] rows)

-- what a run is to do: which lines it takes; what it puts out for those that it took, and for all of them and the end;
-- how many bytes a line may have, and how many reads may give bytes
pub record Task : Type 0 where
  pub is_line : List ℕ → Bool
  pub text : List (List ℕ) → List ℕ
  pub whole : List (List ℕ) → List ℕ
  pub line_max : ℕ
  pub turns : ℕ

-- the task of a program with such rules
abbrev pub task_of : (List ℕ → Bool) → Rules → ℕ → ℕ → Task
task_of is_line r line_max turns = record {
  is_line = is_line;
  text = lines_text r;
  whole = closed_text r;
  line_max = line_max;
  turns = turns;
}

-- a line that is taken, and is short enough
abbrev pub is_good : Task → List ℕ → Bool
is_good t row = t.is_line row && nat_le (length row) t.line_max
