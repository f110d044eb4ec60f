use Rattle.std.proofs.Common.{length}
use Rattle.zs_tree.specs.Blocks.{flat, left_of, AreFilled}
use Rattle.zs_tree.proofs.MatchLemmas.{Pushed}
use Rattle.zs_tree.proofs.matching.push_hits.Given as goal

abbrev pub invariant-loop-run : goal.invariant-loop-run
invariant-loop-run l = Pushed l.asked (flat l.blocks) (left_of l.rest) l.initial.into.items l.into.items × AreFilled l.rest.later.now

abbrev pub decreases-loop-run : goal.decreases-loop-run
decreases-loop-run l = length (left_of l.rest)
