use Rattle.std.proofs.Common.{sym, subst, arith}
use Rattle.std.specs.Arc.{arc_value}
use Rattle.std.specs.Option.{option_map}
use Rattle.zs_posts.specs.Settled.{IsSettled}
use Rattle.zs_posts.proofs.Settling.{after_opening}
use Rattle.zs_posts.proofs.posts.Posts.open.Goals as goal

pub invariant_of-self-2 : goal.invariant_of-self-2
invariant_of-self-2 g c =
    let after = after_opening c.open.result c.args.name (option_map arc_value c.args.handler.now) c.self.inside.map c.open.new.self c.self.inside.ready.items c.open.ensures.ok c.open.ensures.err c.self.invariant.1 in
    (omega (arith, after.0, c.in-Ok.ensures.ok, c.len-count.ensures, c.reserve.ensures.len), subst (λ items. IsSettled c.open.new.self.rows items) (sym c.reserve.ensures.items) after.1)
