-- What a writer of a payload holds.
use Rattle.std.specs.Prelude.{ℕ, List, ◌++◌}
use Rattle.zs_bytes.specs.Payload.{bytes_of, one_slice}

pub record Written : Type 0 where
  pub slices : List (List ℕ)  -- the slices that nothing is added to any more
  pub tail : List ℕ  -- what was written behind them

-- everything in order, as the slices of a payload
abbrev pub slices_written : Written → List (List ℕ)
slices_written written = written.slices ++ one_slice written.tail

-- the bytes of everything
abbrev pub bytes_written : Written → List ℕ
bytes_written written = bytes_of written.slices ++ written.tail
