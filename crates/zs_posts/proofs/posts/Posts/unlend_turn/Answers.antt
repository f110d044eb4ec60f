use Rattle.std.proofs.Common.{◌≡◌, map, length, sym, ap, ◌∙◌, subst, arith}
use Rattle.std.specs.List.{AllByRecursion}
use Rattle.zs_posts.specs.Calls.{call_seen, all_lents}
use Rattle.zs_posts.specs.Lending.{returned_all}
use Rattle.zs_posts.specs.Settled.{IsSettled}
use Rattle.zs_posts.proofs.Settling.{length_returned}
use Rattle.zs_posts.proofs.posts.Posts.unlend_turn.Goals as goal

pub unlend_each-requires : goal.unlend_each-requires
unlend_each-requires g c =
    subst (λ s. AllByRecursion (λ l. l.room ≡ s.room) (all_lents (map call_seen c.args.calls.items))) (sym c.self.view_is) c.requires.of_room

pub invariant_of-self : goal.invariant_of-self
invariant_of-self g c =
    let lents = all_lents (map call_seen c.args.calls.items) in
    let same = ap (λ m. length m.rows) c.unlend_each.ensures ∙ length_returned lents c.self.inside.map.rows in (
      omega (arith, same, c.self.invariant.0),
      subst (λ m. IsSettled m.rows c.self.inside.ready.items) (sym c.unlend_each.ensures)
          (subst (λ s. IsSettled (returned_all lents s.rows) s.ready) (sym c.self.view_is) c.requires.settled),
    )
