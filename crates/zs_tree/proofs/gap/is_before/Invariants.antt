use Rattle.std.proofs.Common.{◌≡◌, [], ◌∷◌, ◌++◌, length}
use Rattle.zs_tree.specs.Code.{code_cmp}
use Rattle.zs_tree.proofs.gap.is_before.Given as goal

abbrev pub invariant-loop-theirs : goal.invariant-loop-theirs
invariant-loop-theirs l = code_cmp (l.chunk ++ (0x2f ∷ [])) (l.other ++ (0x2f ∷ [])) ≡ code_cmp (l.left ++ (0x2f ∷ [])) (l.right ++ (0x2f ∷ []))

abbrev pub decreases-loop-theirs : goal.decreases-loop-theirs
decreases-loop-theirs l = length l.right
