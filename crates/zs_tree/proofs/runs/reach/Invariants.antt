use Rattle.std.proofs.Common.{◌<◌, ◌-◌, length}
use Rattle.zs_tree.proofs.runs.reach.Given as goal

abbrev pub invariant-loop-entry : goal.invariant-loop-entry
invariant-loop-entry l = 0 < l.end

abbrev pub decreases-loop-entry : goal.decreases-loop-entry
decreases-loop-entry l = length l.entries - l.end
