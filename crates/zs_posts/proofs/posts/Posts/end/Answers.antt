use Rattle.std.proofs.Common.{length, ap, arith}
use Rattle.zs_posts.specs.Posts.{flagged}
use Rattle.zs_posts.proofs.Settling.{length_changed, settled_now}
use Rattle.zs_posts.proofs.posts.Posts.end.Goals as goal

pub settle-requires : goal.settle-requires
settle-requires g c = omega (arith, ap (λ m. length m.rows) c.flag.ensures, length_changed flagged c.args.key c.self.inside.map.rows, c.self.invariant.0)

pub invariant_of-self : goal.invariant_of-self
invariant_of-self g c = (
  c.settle.ensures.room,
  settled_now flagged c.args.key c.self.inside.map.rows _ _ c.self.inside.ready.items _ c.self.invariant.1 (ap (λ m. m.rows) c.flag.ensures) (ap (λ m. m.rows) c.settle.ensures.rows) c.settle.ensures.ready,
)
