use Rattle.std.proofs.Common.{◌≡◌, ◌++◌, length}
use Rattle.zs_bytes.specs.Payload.{bytes_of}
use Rattle.zs_bytes.proofs.reader.first_piece.Given as goal

abbrev pub invariant-slices : goal.invariant-slices
invariant-slices l = l.piece ++ bytes_of l.rest ≡ l.initial.piece ++ bytes_of l.initial.rest

abbrev pub decreases-slices : goal.decreases-slices
decreases-slices l = length l.rest
