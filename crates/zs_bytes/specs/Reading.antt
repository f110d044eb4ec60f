-- What a reader of a payload is between two calls, and where a seek leads.
use Rattle.std.specs.Prelude.{ℕ, ◌≡◌, ◌≤◌, List, length, drop, ◌++◌, ℤ, pos, ◌+ℤ◌}
use Rattle.std.specs.List.{concat}
use Rattle.std.specs.declared.io.SeekFrom.{SeekFrom}
use Rattle.std.specs.declared.io.SeekFrom.TheVariants.{Start, End, Current}

pub record Reading : Type 0 where
  pub bytes : List ℕ  -- all the bytes of the payload
  pub position : ℕ  -- how many of them lie before the next one

-- the bytes from the position on
abbrev pub unread : Reading → List ℕ
unread reading = drop reading.position reading.bytes

-- where a seek is to lead, which may be below the start or past the end
abbrev pub seek_target : Reading → SeekFrom → ℤ
seek_target reading (Start place) = pos place
seek_target reading (End offset) = pos (length reading.bytes) +ℤ offset
seek_target reading (Current offset) = pos reading.position +ℤ offset

-- a reader of these slices is at this position, with the piece and then the rest before it
pub record IsAt (slices : List (List ℕ)) (piece : List ℕ) (rest : List (List ℕ)) (position count : ℕ) : Type 0 where
  pub left : drop position (concat slices) ≡ piece ++ concat rest
  pub len : count ≡ length (concat slices)
  pub within : position ≤ length (concat slices)
