use Rattle.std.proofs.Common.{arith}
use Rattle.zs_bytes.proofs.Pieces.{IsAt-take}
use Rattle.zs_bytes.proofs.reader.ZBytesReader.take_piece.Goals as goal

pub invariant_of-self : goal.invariant_of-self
invariant_of-self c =
    let r = c.self.inside in
    IsAt-take r.slices.now r.rest.now c.first_piece.result.1.now r.piece.now c.first_piece.result.0.now _ r.position c.min-count.result r.len c.self.invariant c.first_piece.ensures.same c.split_at.ensures.back (omega arith)
