-- What contracts see of the sources and sinks that live in memory.
use Rattle.std.specs.Prelude.{ℕ, List, Contains}
use Rattle.zs_keys.specs.Stream.{count_after}

-- a source that never fails: the bytes that it still holds, how many reads there were, and how many of them gave bytes
pub record Holding : Type 0 where
  pub left : List ℕ
  pub reads : ℕ
  pub pieces : ℕ

-- a source: the bytes that it still holds, the most that one read gives, the numbers of the reads that fail,
-- how many reads there were, how many of them gave bytes, and how many faults
pub record Supply : Type 0 where
  pub left : List ℕ
  pub cut : ℕ
  pub fail : List ℕ
  pub reads : ℕ
  pub pieces : ℕ
  pub faults : ℕ

-- a sink: the bytes that it took, the most that one write takes, the numbers of the writes that fail and of those
-- that take nothing, how many writes there were, how many faults, and how many of these for want of memory
pub record Store : Type 0 where
  pub written : List ℕ
  pub cut : ℕ
  pub fail : List ℕ
  pub stuck : List ℕ
  pub writes : ℕ
  pub faults : ℕ
  pub short : ℕ

-- the next read is one of those that fail
abbrev pub IsFailingRead : Supply → Type 0
IsFailingRead s = Contains s.fail (count_after s.reads 1)

-- the next write is one of those that fail
abbrev pub IsFailingWrite : Store → Type 0
IsFailingWrite s = Contains s.fail (count_after s.writes 1)

-- the next write is one of those that take nothing
abbrev pub IsStuckWrite : Store → Type 0
IsStuckWrite s = Contains s.stuck (count_after s.writes 1)
