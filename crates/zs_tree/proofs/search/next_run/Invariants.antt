use Rattle.std.proofs.Common.{length}
use Rattle.zs_tree.specs.Blocks.{left_of, AreFilled}
use Rattle.zs_tree.proofs.HitLemmas.{Gathered}
use Rattle.zs_tree.proofs.search.next_run.Given as goal

abbrev pub invariant-loop-first : goal.invariant-loop-first
invariant-loop-first l = Gathered l.asked (left_of l.left) (left_of l.rest) × AreFilled l.rest.later.now

abbrev pub decreases-loop-first : goal.decreases-loop-first
decreases-loop-first l = length (left_of l.rest)
