use Rattle.zs_tree.proofs.Gaps.{before_end}
use Rattle.zs_tree.proofs.gap.is_before.Goals as goal

pub returns-in-Some-split_first-2 : goal.returns-in-Some-split_first-2
returns-in-Some-split_first-2 c =
    before_end c.args.chunk.now c.args.other.now c.loop-theirs.left.now c.loop-theirs.right.now c.in-Some-split_first-2.ours.now c.in-Some-split_first-2.field-0-1.now
    c.loop-theirs.invariant c.in-Some-split_first-2.ensures.cases.0 c.in_default.ensures.cases
