use Rattle.std.proofs.Common.{◌≡◌, length}
use Rattle.zs_tree.specs.Chunks.{chunks_left}
use Rattle.zs_tree.specs.Code.{coded, code_of, code_cmp}
use Rattle.zs_tree.proofs.code.cmp_code.Given as goal

abbrev pub invariant-loop-chunk : goal.invariant-loop-chunk
invariant-loop-chunk l = code_cmp l.initial.code (code_of l.text) ≡ code_cmp l.code (coded (chunks_left l.left))

abbrev pub decreases-loop-chunk : goal.decreases-loop-chunk
decreases-loop-chunk l = length (chunks_left l.left)
