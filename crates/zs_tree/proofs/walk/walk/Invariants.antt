use Rattle.std.proofs.Common.{length}
use Rattle.zs_tree.specs.Chunks.{chunks_left}
use Rattle.zs_tree.specs.Walk.{Led}
use Rattle.std.proofs.Common.{string_bytes}
use Rattle.zs_keys.specs.Text.{chunks}
use Rattle.zs_tree.proofs.walk.walk.Given as goal

abbrev pub invariant-loop-next : goal.invariant-loop-next
invariant-loop-next l = Led (chunks l.asked) (chunks (string_bytes l.stored.text)) (chunks_left l.at.left) (chunks_left l.at.right) l.at.code.now l.at.firm.now

abbrev pub decreases-loop-next : goal.decreases-loop-next
decreases-loop-next l = length (chunks_left l.at.right)
