use Rattle.std.proofs.Common.{◌≡◌, ◌∷◌, ◌++◌, flat_map, length}
use Rattle.std.specs.String.{string_bytes}
use Rattle.zs_bytes.specs.Payload.{bytes_of}
use Rattle.zs_printing.specs.Words.{byte_digits}
use Rattle.zs_printing.proofs.digits.append_bytes.Given as goal

abbrev pub invariant-slices : goal.invariant-slices
invariant-slices l =
    string_bytes l.out ++ flat_map byte_digits (bytes_of l.slices)
    ≡ string_bytes l.fn.out ++ 120 ∷ flat_map byte_digits (bytes_of l.bytes)

abbrev pub decreases-slices : goal.decreases-slices
decreases-slices l = length l.slices
