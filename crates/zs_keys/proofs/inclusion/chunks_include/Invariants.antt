use Rattle.std.proofs.Common.{◌≡◌, false, length}
use Rattle.zs_keys.specs.Text.{is_double_star}
use Rattle.zs_keys.specs.Matching.{meets, is_free, chunk_includes}
use Rattle.zs_keys.specs.Chunks.{chunks_left}
use Rattle.zs_keys.proofs.inclusion.chunks_include.Given as goal

abbrev pub invariant-loop-left : goal.invariant-loop-left
invariant-loop-left l =
    meets is_double_star (λ _. false) is_free chunk_includes (chunks_left l.initial.left) (chunks_left l.initial.right)
    ≡ meets is_double_star (λ _. false) is_free chunk_includes (chunks_left l.left) (chunks_left l.right)

abbrev pub decreases-loop-left : goal.decreases-loop-left
decreases-loop-left l = length (chunks_left l.left)
