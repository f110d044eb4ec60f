-- What one read of a source does to the bytes that were read.
use Rattle.std.specs.Prelude.{◌≡◌, ℕ, ◌<◌, Bool, true, false, List, [], ◌++◌, length}

-- the bytes that were read and those to come are the same in all, and a read that was not the last gave at least one
pub record ReadsOn (old left new now : List ℕ) (more : Bool) : Type 0 where
  pub bytes : old ++ left ≡ new ++ now
  pub some : more ≡ true → length now < length left
  pub end : more ≡ false → now ≡ []
