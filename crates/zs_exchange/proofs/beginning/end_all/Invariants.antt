use Rattle.std.proofs.Common.{◌≡◌, length}
use Rattle.std.specs.Vec.Iter.{into_iter_items, into_iter_len}
use Rattle.zs_exchange.specs.Begun.{ended_all}
use Rattle.zs_exchange.proofs.beginning.end_all.Given as goal

abbrev pub invariant-loop-key : goal.invariant-loop-key
invariant-loop-key g l = record {
  posts : ended_all (into_iter_items l.left) l.posts ≡ ended_all l.fn.keys.items l.fn.posts;
  left : length (into_iter_items l.left) ≡ into_iter_len l.left;
}

abbrev pub decreases-loop-key : goal.decreases-loop-key
decreases-loop-key g l = into_iter_len l.left
