use Rattle.std.proofs.Common.{◌≡◌, ◌+◌, false, length}
use Rattle.std.specs.List.{list_any}
use Rattle.zs_keys.specs.Walk.{meets_behind}
use Rattle.zs_keys.proofs.pattern.stands_behind.Given as goal

abbrev pub invariant-loop-rest : goal.invariant-loop-rest
invariant-loop-rest g l = record {
  plain : list_any g.P.Pattern.wild_right (g.P.Pattern.elements l.right) ≡ false;
  answer : meets_behind g.P.Pattern.wild g.P.Pattern.wild_right g.P.Pattern.same (g.P.Pattern.elements l.initial.left)
      (g.P.Pattern.elements l.initial.right)
      ≡ meets_behind g.P.Pattern.wild g.P.Pattern.wild_right g.P.Pattern.same (g.P.Pattern.elements l.left)
      (g.P.Pattern.elements l.right);
}

abbrev pub decreases-loop-rest : goal.decreases-loop-rest
decreases-loop-rest g l = length (g.P.Pattern.elements l.left) + length (g.P.Pattern.elements l.right)
