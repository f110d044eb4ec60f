use Rattle.std.proofs.Common.{arith}
use Rattle.zs_turns.proofs.Held.{held_end}
use Rattle.zs_turns.proofs.calls.wanted.Goals as goal

pub returns : goal.returns
returns g c =
    held_end c.args.posts.now.rows c.args.tag c.loop-effect.all.items c.loop-effect.effect-index c.args.effects.now c.loop-effect.invariant (omega (arith, c.loop-effect-test.false))
