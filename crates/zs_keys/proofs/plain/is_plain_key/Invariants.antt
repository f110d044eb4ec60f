use Rattle.std.proofs.Common.{◌≡◌, ◌&&◌, drop}
use Rattle.zs_keys.specs.Plain.{is_plain, stands_on}
use Rattle.zs_keys.specs.Text.{is_canonical}
use Rattle.zs_keys.proofs.plain.is_plain_key.Given as goal

abbrev pub invariant-loop-byte : goal.invariant-loop-byte
invariant-loop-byte l = (is_plain l.text && is_canonical l.text) ≡ stands_on l.before (drop l.byte-index l.text)
