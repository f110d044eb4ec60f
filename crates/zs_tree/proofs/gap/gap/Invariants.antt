use Rattle.std.proofs.Common.{length}
use Rattle.zs_tree.specs.Chunks.{chunks_left}
use Rattle.zs_tree.proofs.Gaps.{Narrowed}
use Rattle.zs_tree.proofs.gap.gap.Given as goal

abbrev pub invariant-loop-chunk : goal.invariant-loop-chunk
invariant-loop-chunk l = Narrowed (chunks_left l.asked) (chunks_left l.left) l.code l.bound

abbrev pub decreases-loop-chunk : goal.decreases-loop-chunk
decreases-loop-chunk l = length (chunks_left l.left)
