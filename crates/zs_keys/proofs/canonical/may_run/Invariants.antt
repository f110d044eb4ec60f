use Rattle.std.proofs.Common.{◌≡◌, drop}
use Rattle.zs_keys.specs.Text.{may_run}
use Rattle.zs_keys.proofs.canonical.may_run.Given as goal

abbrev pub invariant-loop-byte : goal.invariant-loop-byte
invariant-loop-byte l = may_run 0x2f l.chunk ≡ may_run l.before (drop l.byte-index l.chunk)
