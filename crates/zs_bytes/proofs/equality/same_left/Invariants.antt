use Rattle.std.proofs.Common.{length}
use Rattle.zs_bytes.specs.Reading.{unread}
use Rattle.zs_bytes.proofs.Comparing.{IsAlong}
use Rattle.zs_bytes.proofs.equality.same_left.Given as goal

abbrev pub invariant-pieces : goal.invariant-pieces
invariant-pieces l = IsAlong l.fn.left l.fn.right l.left l.right

abbrev pub decreases-pieces : goal.decreases-pieces
decreases-pieces l = length (unread l.left)
