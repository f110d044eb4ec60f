use Rattle.std.proofs.Common.{◌≡◌, length}
use Rattle.zs_keys.specs.Walk.{last_piece}
use Rattle.zs_keys.proofs.PieceLemmas.{piece_so_far}
use Rattle.zs_keys.proofs.pattern.last_piece.Given as goal

abbrev pub invariant-loop-element : goal.invariant-loop-element
invariant-loop-element g l =
    last_piece g.P.Pattern.wild (g.P.Pattern.elements l.fn.list)
    ≡ piece_so_far g.P.Pattern.wild (g.P.Pattern.elements l.piece) (g.P.Pattern.elements l.rest)

abbrev pub decreases-loop-element : goal.decreases-loop-element
decreases-loop-element g l = length (g.P.Pattern.elements l.rest)
