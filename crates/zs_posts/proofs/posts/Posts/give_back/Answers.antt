use Rattle.std.proofs.Common.{length, sym, ap, ◌∙◌, arith}
use Rattle.zs_posts.specs.Posts.{changed, lowered_by}
use Rattle.zs_posts.proofs.Settling.{length_changed, settled_now}
use Rattle.zs_posts.proofs.posts.Posts.give_back.Goals as goal

pub settle-requires : goal.settle-requires
settle-requires g c = omega (arith, ap (λ m. length m.rows) c.unlend.ensures, length_changed (lowered_by c.args.lent) c.args.lent.key c.self.inside.map.rows, c.self.invariant.0)

pub invariant_of-self : goal.invariant_of-self
invariant_of-self g c =
    let changes = ap (λ m. m.rows) c.unlend.ensures ∙ ap (λ k. changed (lowered_by c.args.lent) k c.self.inside.map.rows) (sym c.key-key.ensures) in (
      c.settle.ensures.room,
      settled_now (lowered_by c.args.lent) c.key-key.result c.self.inside.map.rows _ _ c.self.inside.ready.items _ c.self.invariant.1 changes (ap (λ m. m.rows) c.settle.ensures.rows) c.settle.ensures.ready,
    )
