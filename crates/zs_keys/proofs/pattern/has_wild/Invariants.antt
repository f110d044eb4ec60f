use Rattle.std.proofs.Common.{◌≡◌, length}
use Rattle.std.specs.List.{list_any}
use Rattle.zs_keys.proofs.pattern.has_wild.Given as goal

abbrev pub invariant-loop-element : goal.invariant-loop-element
invariant-loop-element g l =
    list_any g.P.Pattern.wild_right (g.P.Pattern.elements l.fn.list)
    ≡ list_any g.P.Pattern.wild_right (g.P.Pattern.elements l.rest)

abbrev pub decreases-loop-element : goal.decreases-loop-element
decreases-loop-element g l = length (g.P.Pattern.elements l.rest)
