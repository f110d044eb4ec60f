use Rattle.std.proofs.Common.{◌≡◌, false, [], length, ap, ◌==◌}
use Rattle.zs_tree.specs.Code.{coded}
use Rattle.zs_tree.specs.Chunks.{chunks_left}
use Rattle.zs_tree.proofs.Beside.{cmp_next, cmp_more}
use Rattle.zs_tree.proofs.code.cmp_code.Goals as goal

pub loop-chunk-preserved : goal.loop-chunk-preserved
loop-chunk-preserved c =
    cmp_next _ c.loop-chunk.code.now (coded (chunks_left c.loop-chunk.left)) c.in-Within.behind.now c.in-Some.chunk.now (chunks_left c.in-Some.rest)
    c.mark_of.result c.loop-chunk.invariant (ap coded c.in-Some.ensures) c.mark_of.ensures c.in-Within.ensures

pub returns-else-is_empty : goal.returns-else-is_empty
returns-else-is_empty c =
    cmp_more _ c.loop-chunk.code.now (coded (chunks_left c.loop-chunk.left)) c.loop-chunk.invariant (ap coded c.in_default.ensures)
    (λ e. let h : false ≡ (length c.loop-chunk.code.now == 0) = c.if-is_empty.ensures in let k = rw e at h in absurd (cc))
