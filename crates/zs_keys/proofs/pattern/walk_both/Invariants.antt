use Rattle.std.proofs.Common.{length}
use Rattle.zs_keys.specs.Walk.{Onto}
use Rattle.zs_keys.proofs.pattern.walk_both.Given as goal

abbrev pub invariant-loop-first : goal.invariant-loop-first
invariant-loop-first g l =
    Onto g.P.Pattern.wild g.P.Pattern.wild_right g.P.Pattern.same (g.P.Pattern.elements l.initial.left)
    (g.P.Pattern.elements l.initial.right) (g.P.Pattern.elements l.left) (g.P.Pattern.elements l.right)

abbrev pub decreases-loop-first : goal.decreases-loop-first
decreases-loop-first g l = length (g.P.Pattern.elements l.left)
