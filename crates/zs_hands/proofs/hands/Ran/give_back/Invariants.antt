use Rattle.std.proofs.Common.{◌≡◌, ◌+◌, ◌≤◌, ◌++◌, length}
use Rattle.std.specs.Vec.{vec_len, vec_capacity}
use Rattle.std.specs.Vec.Iter.{into_iter_items, into_iter_len}
use Rattle.zs_posts.specs.Settled.{all_given_back}
use Rattle.zs_hands.specs.Answers.{AreOfRoom, ran_lents, reports_of}
use Rattle.zs_hands.proofs.hands.Ran.give_back.Given as goal

abbrev pub invariant-loop-call : goal.invariant-loop-call
invariant-loop-call g l = record {
  posts : all_given_back (ran_lents (into_iter_items l.left)) l.posts ≡ all_given_back (ran_lents l.fn.self.ran.items) l.fn.posts;
  of_room : AreOfRoom l.posts.room (ran_lents (into_iter_items l.left));
  reports : l.reports.items ++ reports_of (into_iter_items l.left) ≡ reports_of l.fn.self.ran.items;
  wide : vec_len l.reports + into_iter_len l.left ≤ vec_capacity l.reports;
  left : length (into_iter_items l.left) ≡ into_iter_len l.left;
}

abbrev pub decreases-loop-call : goal.decreases-loop-call
decreases-loop-call g l = into_iter_len l.left
