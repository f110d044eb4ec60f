use Rattle.std.proofs.Common.{◌≡◌, ◌+◌, ◌≤◌, ◌++◌, false, List, length}
use Rattle.std.specs.Vec.{vec_len, vec_capacity}
use Rattle.std.specs.Vec.Iter.{into_iter_items, into_iter_len}
use Rattle.zs_hands.specs.declared.handed.RanCall.{RanCall}
use Rattle.zs_hands.specs.Answers.{AnswersAll, AreKept}
use Rattle.zs_hands.proofs.hands.Hands.run.Given as goal

abbrev pub invariant-loop-call : goal.invariant-loop-call
invariant-loop-call g l = record {
  told : (more : List (RanCall g.row.T.Denot g.row.D.Denot)) → AnswersAll g.H.Handler.gives (into_iter_items l.left) more → AnswersAll g.H.Handler.gives l.fn.self.calls.items (l.ran.items ++ more);
  kept : g.H.Handler.evicts ≡ false → AreKept l.ran.items;
  wide : vec_len l.ran + into_iter_len l.left ≤ vec_capacity l.ran;
  few : vec_len l.ran + into_iter_len l.left ≤ vec_len l.fn.self.calls;
  left : length (into_iter_items l.left) ≡ into_iter_len l.left;
}

abbrev pub decreases-loop-call : goal.decreases-loop-call
decreases-loop-call g l = into_iter_len l.left
