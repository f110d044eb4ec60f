use Rattle.std.proofs.Common.{◌≤◌, length, sym, ap, subst, arith}
use Rattle.zs_posts.specs.Keys.{is_key}
use Rattle.zs_posts.specs.Lending.{without}
use Rattle.zs_posts.specs.Settled.{IsSettled}
use Rattle.zs_posts.proofs.Settling.{length_less, without_not}
use Rattle.zs_posts.proofs.posts.Posts.take_out.Goals as goal

pub invariant_of-self : goal.invariant_of-self
invariant_of-self g c =
    let old = c.self.inside.map.rows in
    let less = length_less (is_key c.args.key) old in
    let is = ap (λ m. m.rows) c.remove.ensures.rows in (
      omega (arith, ap length is, less, c.self.invariant.0),
      subst (λ rows. IsSettled rows c.self.inside.ready.items) (sym is) record { no_other = without_not c.args.key old c.self.invariant.1.no_other; each = c.self.invariant.1.each },
    )

pub invariant_of-self-in-None : goal.invariant_of-self-in-None
invariant_of-self-in-None g c =
    let old = c.self.inside.map.rows in
    let less = length_less (is_key c.args.key) old in
    let is = ap (λ m. m.rows) c.remove.ensures.rows in (
      omega (arith, ap length is, less, c.self.invariant.0),
      subst (λ rows. IsSettled rows c.self.inside.ready.items) (sym is) record { no_other = without_not c.args.key old c.self.invariant.1.no_other; each = c.self.invariant.1.each },
    )
