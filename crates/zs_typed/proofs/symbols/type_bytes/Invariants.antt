use Rattle.std.proofs.Common.{◌≡◌, true, length}
use Rattle.zs_bytes.specs.Payload.{bytes_of}
use Rattle.zs_event_lines.specs.Sayable.{are_bytes}
use Rattle.zs_typed.proofs.Bytes.{AreSmall}
use Rattle.zs_typed.proofs.symbols.type_bytes.Given as goal

abbrev pub invariant-slices : goal.invariant-slices
invariant-slices l = AreSmall (bytes_of l.slices) → are_bytes l.bytes ≡ true

abbrev pub decreases-slices : goal.decreases-slices
decreases-slices l = length l.slices
