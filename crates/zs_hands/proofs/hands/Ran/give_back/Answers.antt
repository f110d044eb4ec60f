use Rattle.std.proofs.Common.{◌≡◌, [], ◌∷◌, ◌++◌, length, sym, ap, ◌∙◌, subst, append_assoc, arith}
use Rattle.std.specs.Vec.Iter.{into_iter_items}
use Rattle.zs_posts.specs.Calls.{passes_lents}
use Rattle.zs_posts.specs.Settled.{all_given_back}
use Rattle.zs_posts.proofs.InTurn.{all_parts}
use Rattle.zs_hands.specs.Answers.{AreOfRoom, ran_lents, reports_of}
use Rattle.zs_hands.proofs.Backs.{given_append, given_room}
use Rattle.zs_hands.proofs.hands.Ran.give_back.Goals as goal

pub give_all_back-requires : goal.give_all_back-requires
give_all_back-requires g c =
    let rest = into_iter_items c.next.new.self in
    let all = subst (λ rs. AreOfRoom c.loop-call.posts.room (ran_lents rs)) c.in-Some.ensures.items c.loop-call.invariant.of_room in
    (all_parts (λ l. l.room ≡ c.loop-call.posts.room) (passes_lents c.in-Some.call.passes) (ran_lents rest) all).0

pub loop-call-preserved : goal.loop-call-preserved
loop-call-preserved g c =
    let rest = into_iter_items c.next.new.self in
    let call = c.in-Some.call in
    let posts = c.loop-call.posts in
    let all = subst (λ rs. AreOfRoom posts.room (ran_lents rs)) c.in-Some.ensures.items c.loop-call.invariant.of_room in
    let behind = (all_parts (λ l. l.room ≡ posts.room) (passes_lents call.passes) (ran_lents rest) all).1 in
    let room = ap (λ s. s.room) c.give_all_back.ensures ∙ given_room (passes_lents call.passes) posts in
    record {
      posts = ap (all_given_back (ran_lents rest)) c.give_all_back.ensures
          ∙ (sym (given_append (passes_lents call.passes) (ran_lents rest) posts) ∙ (ap (λ rs. all_given_back (ran_lents rs) posts) (sym c.in-Some.ensures.items) ∙ c.loop-call.invariant.posts));
      of_room = subst (λ r. AreOfRoom r (ran_lents rest)) (sym room) behind;
      reports = ap (λ rs. rs ++ reports_of rest) c.push_reserved.ensures.items
          ∙ (append_assoc c.loop-call.reports.items (call.report ∷ []) (reports_of rest) ∙ (ap (λ rs. c.loop-call.reports.items ++ reports_of rs) (sym c.in-Some.ensures.items) ∙ c.loop-call.invariant.reports));
      wide = omega (arith, c.in-Some.ensures.len, c.push_reserved.ensures.len, c.push_reserved.ensures.capacity, c.loop-call.invariant.wide);
      left = omega (arith, c.in-Some.ensures.len, ap length c.in-Some.ensures.items, c.loop-call.invariant.left);
    }
