use Rattle.std.proofs.Common.{◌≡◌, map}
use Rattle.std.specs.List.{AllByRecursion}
use Rattle.zs_posts.specs.Lending.{returned_all}
use Rattle.zs_posts.specs.Calls.{call_seen, all_lents}
use Rattle.zs_posts.proofs.post_map.PostMap.unlend_each.Given as goal

abbrev pub invariant-loop-call : goal.invariant-loop-call
invariant-loop-call g l = record {
  rows : returned_all (all_lents (map call_seen l.left.items)) l.self.rows ≡ returned_all (all_lents (map call_seen l.fn.calls.items)) l.fn.self.rows;
  of_room : AllByRecursion (λ lent. lent.room ≡ l.fn.self.room) (all_lents (map call_seen l.left.items));
  room : l.self.room ≡ l.fn.self.room;
}

abbrev pub decreases-loop-call : goal.decreases-loop-call
decreases-loop-call g l = goal.left-loop-call g l
