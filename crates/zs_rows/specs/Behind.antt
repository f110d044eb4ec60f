-- Where a walk goes on.
use Rattle.std.specs.Prelude.{ℕ, Option, Some, None}
use Rattle.std.specs.declared.ops.Bound.{Bound}
use Rattle.std.specs.declared.ops.Bound.TheVariants.{Excluded, Unbounded}

-- the start of what is above a number, or of all
abbrev pub start_of : Option ℕ → Bound ℕ
start_of None = Unbounded
start_of (Some after) = Excluded after
