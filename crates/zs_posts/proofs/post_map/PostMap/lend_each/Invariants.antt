use Rattle.std.proofs.Common.{◌≡◌, ◌+◌, ◌≤◌, map, length}
use Rattle.std.specs.Vec.{vec_len, vec_capacity}
use Rattle.std.specs.Vec.Iter.{into_iter_items, into_iter_len}
use Rattle.zs_posts.specs.Calls.{call_seen}
use Rattle.zs_posts.specs.Turns.{Underway}
use Rattle.zs_posts.proofs.post_map.PostMap.lend_each.Given as goal

abbrev pub invariant-loop-next : goal.invariant-loop-next
invariant-loop-next g l = record {
  underway : Underway l.fn.self.room l.fn.wanted.items l.fn.self.rows (into_iter_items l.left) (map call_seen l.calls.items) l.self.rows;
  room : l.self.room ≡ l.fn.self.room;
  wide : vec_len l.calls + into_iter_len l.left ≤ vec_capacity l.calls;
  few : vec_len l.calls + into_iter_len l.left ≤ vec_len l.fn.wanted;
  left : length (into_iter_items l.left) ≡ into_iter_len l.left;
}

abbrev pub decreases-loop-next : goal.decreases-loop-next
decreases-loop-next g l = into_iter_len l.left
