use Rattle.std.proofs.Common.{◌≡◌, length}
use Rattle.zs_keys.specs.Matching.{is_free}
use Rattle.zs_keys.specs.Chunks.{chunks_left}
use Rattle.zs_keys.specs.Segments.{behind}
use Rattle.zs_keys.proofs.segment.next_verbatim.Given as goal

abbrev pub invariant-loop-chunk : goal.invariant-loop-chunk
invariant-loop-chunk l = behind is_free (chunks_left l.fn.chunks) ≡ behind is_free (chunks_left l.rest)

abbrev pub decreases-loop-chunk : goal.decreases-loop-chunk
decreases-loop-chunk l = length (chunks_left l.rest)
