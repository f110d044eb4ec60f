use Rattle.zs_channels.proofs.Following.{heard_more}
use Rattle.zs_channels.proofs.hearing.Channels+HandOver.hear_effects.Goals as goal

pub loop-effect-preserved : goal.loop-effect-preserved
loop-effect-preserved c =
    heard_more c.args.effects.now c.loop-effect.effect-index c.effect-item.result c.args.self.now c.loop-effect.self c.hear_effect.new.self
    c.loop-effect-test.true c.effect-item.is c.loop-effect.invariant c.in_ok-hear_effect.ensures
