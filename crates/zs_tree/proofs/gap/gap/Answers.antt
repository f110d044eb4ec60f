use Rattle.zs_tree.specs.Chunks.{chunks_left}
use Rattle.zs_tree.proofs.Gaps.{narrowed_more}
use Rattle.zs_tree.proofs.gap.gap.Goals as goal

pub loop-chunk-preserved : goal.loop-chunk-preserved
loop-chunk-preserved c =
    narrowed_more (chunks_left c.args.asked) (chunks_left c.loop-chunk.left) c.args.code.now c.loop-chunk.bound c.in_ok-bound.bound c.in-Some.chunk.now
    (chunks_left c.in-Some.rest) c.loop-chunk.invariant c.in-Some.ensures c.in_ok-bound.ensures
