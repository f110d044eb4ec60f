use Rattle.std.proofs.Common.{refl}
use Rattle.std.proofs.lemmas.Bool.{false≢true}
use Rattle.zs_bytes.proofs.Comparing.{never, not-along, IsAlong-more}
use Rattle.zs_bytes.proofs.equality.same_left.Goals as goal

pub returns-then-not-takes : goal.returns-then-not-takes
returns-then-not-takes c =
    never _ (
    not-along c.args.left.now c.args.right.now c.pieces.left c.pieces.right c.take_piece-piece.result.now c.pieces.invariant c.take_piece-piece.ensures.bytes (λ same. false≢true (c.if-not-takes.ensures.same.1 same))
    )

pub pieces-preserved : goal.pieces-preserved
pieces-preserved c =
    IsAlong-more c.args.left.now c.args.right.now c.pieces.left c.pieces.right _ _ c.take_piece-piece.result.now c.pieces.invariant c.take_piece-piece.ensures.bytes c.take_piece-piece.ensures.after (c.if-not-takes.ensures.same.0 refl) c.if-not-takes.ensures.after
