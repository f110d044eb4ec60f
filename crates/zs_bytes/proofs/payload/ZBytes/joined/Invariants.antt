use Rattle.std.proofs.Common.{◌≡◌, take}
use Rattle.zs_bytes.specs.Payload.{bytes_of}
use Rattle.zs_bytes.proofs.payload.ZBytes.joined.Given as goal

abbrev pub invariant-slices : goal.invariant-slices
invariant-slices l = l.bytes.items ≡ bytes_of (take l.slice-index l.slices)
