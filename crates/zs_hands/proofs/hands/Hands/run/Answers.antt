use Rattle.std.proofs.Common.{◌++◌, List, [], ◌∷◌, length, sym, ap, ◌∙◌, subst, arith}
use Rattle.std.specs.Vec.Iter.{into_iter_items}
use Rattle.zs_hands.specs.declared.handed.RanCall.{RanCall}
use Rattle.zs_posts.proofs.InTurn.{all_append}
use Rattle.zs_hands.specs.Answers.{AnswersAll, AreKept, IsKept}
use Rattle.zs_hands.proofs.Backs.{told_more, told_all, rooms_back}
use Rattle.zs_hands.proofs.hands.Hands.run.Goals as goal

pub loop-call-preserved : goal.loop-call-preserved
loop-call-preserved g c =
    let rest = into_iter_items c.next.new.self in
    record {
      told = subst (λ rs. (more : List (RanCall g.row.T.Denot g.row.D.Denot)) → AnswersAll g.H.Handler.gives rest more → AnswersAll g.H.Handler.gives c.args.self.calls.items (rs ++ more)) (sym c.push_reserved.ensures.items)
          (told_more g.H.Handler.gives c.args.self.calls.items (into_iter_items c.loop-call.left) rest c.in-Some.call c.loop-call.ran.items c.run_call.result c.in-Some.ensures.items c.loop-call.invariant.told c.run_call.ensures.told);
      kept = λ no. subst AreKept (sym c.push_reserved.ensures.items) (all_append (λ r. IsKept r.report) c.loop-call.ran.items (c.run_call.result ∷ []) (c.loop-call.invariant.kept no) (c.run_call.ensures.kept no, tt));
      wide = omega (arith, c.in-Some.ensures.len, c.push_reserved.ensures.len, c.push_reserved.ensures.capacity, c.loop-call.invariant.wide);
      few = omega (arith, c.in-Some.ensures.len, c.push_reserved.ensures.len, c.loop-call.invariant.few);
      left = omega (arith, c.in-Some.ensures.len, ap length c.in-Some.ensures.items, c.loop-call.invariant.left);
    }

pub returns-clause-told : goal.returns-clause-told
returns-clause-told g c =
    told_all g.H.Handler.gives c.args.self.calls.items (into_iter_items c.loop-call.left) c.loop-call.ran.items (c.loop-call.invariant.left ∙ c.in_default.ensures.cases.0) c.loop-call.invariant.told

pub returns-clause-kept : goal.returns-clause-kept
returns-clause-kept g c = c.loop-call.invariant.kept

pub returns-clause-room : goal.returns-clause-room
returns-clause-room g c =
    let told = told_all g.H.Handler.gives c.args.self.calls.items (into_iter_items c.loop-call.left) c.loop-call.ran.items (c.loop-call.invariant.left ∙ c.in_default.ensures.cases.0) c.loop-call.invariant.told in
    λ room all. rooms_back g.H.Handler.gives room c.args.self.calls.items c.loop-call.ran.items told all
