use Rattle.std.proofs.Common.{◌≡◌, length}
use Rattle.zs_keys.specs.Text.{is_canonical}
use Rattle.zs_keys.specs.Chunks.{chunks_left}
use Rattle.zs_keys.proofs.CanonicalLemmas.{fits_behind}
use Rattle.zs_keys.proofs.canonical.is_canonical.Given as goal

abbrev pub invariant-loop-chunk : goal.invariant-loop-chunk
invariant-loop-chunk l = is_canonical l.text ≡ fits_behind l.behind_run (chunks_left l.rest)

abbrev pub decreases-loop-chunk : goal.decreases-loop-chunk
decreases-loop-chunk l = length (chunks_left l.rest)
