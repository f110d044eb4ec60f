use Rattle.std.proofs.Common.{◌≡◌, drop}
use Rattle.zs_keys.specs.Plain.{is_plain}
use Rattle.zs_keys.proofs.plain.is_plain.Given as goal

abbrev pub invariant-loop-byte : goal.invariant-loop-byte
invariant-loop-byte l = is_plain l.text ≡ is_plain (drop l.byte-index l.text)
