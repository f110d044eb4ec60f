use Rattle.std.proofs.Common.{◌≡◌, take}
use Rattle.zs_bytes.proofs.slices.shared.Given as goal

abbrev pub invariant-copies : goal.invariant-copies
invariant-copies l = l.copies.items ≡ take l.slice-index l.slices
