use Rattle.std.proofs.Common.{◌∷◌, map, length, sym, ap, ◌∙◌, subst, arith}
use Rattle.std.specs.Vec.Iter.{into_iter_items}
use Rattle.zs_posts.specs.Lending.{IsLent}
use Rattle.zs_posts.specs.Calls.{call_keys, call_seen}
use Rattle.zs_posts.specs.Turns.{Underway}
use Rattle.zs_posts.proofs.InTheTurn.{lent_more}
use Rattle.zs_posts.proofs.post_map.PostMap.lend_each.Goals as goal

pub loop-next-preserved : goal.loop-next-preserved
loop-next-preserved g c =
    let old = c.args.self.now in
    let now = c.loop-next.self in
    let left = c.in-Some.next ∷ into_iter_items c.next.new.self in
    let calls = map call_seen c.loop-next.calls.items in
    let lent = c.in-Ok.ensures.ok in
    let underway = subst (λ ls. Underway old.room c.args.wanted.items old.rows ls calls now.rows) c.in-Some.ensures.items c.loop-next.invariant.underway in
    let here = subst (λ r. IsLent r (call_keys c.in-Some.next.key now.rows) now.rows lent.0 c.lend_item.new.self.rows) c.loop-next.invariant.room lent.1 in
    record {
      underway = subst (λ more. Underway old.room c.args.wanted.items old.rows (into_iter_items c.next.new.self) more c.lend_item.new.self.rows) (sym lent.2) (lent_more underway here);
      room = c.in-Ok.ensures.room ∙ c.loop-next.invariant.room;
      wide = omega (arith, c.in-Some.ensures.len, c.in-Ok.ensures.len, c.in-Ok.ensures.capacity, c.loop-next.invariant.wide);
      few = omega (arith, c.in-Some.ensures.len, c.in-Ok.ensures.len, c.loop-next.invariant.few);
      left = omega (arith, c.in-Some.ensures.len, ap length c.in-Some.ensures.items, c.loop-next.invariant.left);
    }
