use Rattle.std.proofs.Common.{◌≡◌, take}
use Rattle.zs_channels.specs.Table.{behind_all}
use Rattle.zs_channels.specs.Heard.{news_of_effects}
use Rattle.zs_channels.proofs.hearing.Channels+HandOver.hear_effects.Given as goal

abbrev pub invariant-loop-effect : goal.invariant-loop-effect
invariant-loop-effect l = l.self ≡ behind_all (news_of_effects (take l.effect-index l.effects)) l.fn.self
