use Rattle.std.proofs.Common.{◌≡◌, map, length}
use Rattle.zs_keys.specs.Canonize.{canonize, canonized_chunk, ordered_chunks}
use Rattle.zs_keys.specs.Chunks.{chunks_left}
use Rattle.zs_keys.specs.Writing.{written_text}
use Rattle.zs_keys.proofs.canonize.canonize.Given as goal

abbrev pub invariant-loop-chunk : goal.invariant-loop-chunk
invariant-loop-chunk l = canonize l.text ≡ written_text l.form (ordered_chunks (map canonized_chunk (chunks_left l.rest)))

abbrev pub decreases-loop-chunk : goal.decreases-loop-chunk
decreases-loop-chunk l = length (chunks_left l.rest)
