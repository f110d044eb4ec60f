use Rattle.std.proofs.Common.{length, ◌≤◌}
use Rattle.zs_tree.specs.Blocks.{flat, left_of, AreFilled}
use Rattle.zs_tree.proofs.MatchLemmas.{Least}
use Rattle.zs_tree.proofs.least.least_id.Given as goal

abbrev pub invariant-loop-run : goal.invariant-loop-run
invariant-loop-run g l = Least l.asked l.after (flat l.blocks) (left_of l.rest) l.least × (l.initial.steps ≤ l.steps) × AreFilled l.rest.later.now

abbrev pub decreases-loop-run : goal.decreases-loop-run
decreases-loop-run g l = length (left_of l.rest)
