use Rattle.std.proofs.Common.{◌≡◌, ◌++◌, length}
use Rattle.zs_tree.specs.Chunks.{chunks_left}
use Rattle.zs_tree.specs.Code.{coded, code_of}
use Rattle.zs_tree.proofs.code.code_of.Given as goal

abbrev pub invariant-loop-chunk : goal.invariant-loop-chunk
invariant-loop-chunk l = l.code.items ++ coded (chunks_left l.left) ≡ code_of l.text

abbrev pub decreases-loop-chunk : goal.decreases-loop-chunk
decreases-loop-chunk l = length (chunks_left l.left)
