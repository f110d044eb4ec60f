use Rattle.std.proofs.Common.{◌≡◌, map, sym, ap, ◌∙◌, subst}
use Rattle.std.specs.List.{AllByRecursion}
use Rattle.zs_posts.specs.Lending.{returned_all}
use Rattle.zs_posts.specs.Calls.{call_seen, passes_lents, all_lents}
use Rattle.zs_posts.proofs.InTheTurn.{popped_rows, popped_rooms}
use Rattle.zs_posts.proofs.post_map.PostMap.unlend_each.Goals as goal

pub unlend_call-requires : goal.unlend_call-requires
unlend_call-requires g c =
    let rooms = popped_rooms c.args.self.now.room c.loop-call.left.items c.pop.new.self.items c.in-Some.call c.in-Some.ensures.items c.loop-call.invariant.of_room in
    subst (λ r. AllByRecursion (λ l. l.room ≡ r) (passes_lents c.in-Some.call.passes)) (sym c.loop-call.invariant.room) rooms.1

pub loop-call-preserved : goal.loop-call-preserved
loop-call-preserved g c =
    let rest = c.pop.new.self.items in
    record {
      rows = ap (λ m. returned_all (all_lents (map call_seen rest)) m.rows) c.unlend_call.ensures
          ∙ (sym (popped_rows c.loop-call.left.items rest c.in-Some.call c.loop-call.self.rows c.in-Some.ensures.items) ∙ c.loop-call.invariant.rows);
      of_room = (popped_rooms c.args.self.now.room c.loop-call.left.items rest c.in-Some.call c.in-Some.ensures.items c.loop-call.invariant.of_room).0;
      room = ap (λ m. m.room) c.unlend_call.ensures ∙ c.loop-call.invariant.room;
    }
