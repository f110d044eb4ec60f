use Rattle.std.proofs.Common.{◌≡◌, take}
use Rattle.zs_group_lines.specs.Tokens.{heard}
use Rattle.zs_group_lines.proofs.hearing.hear_effects.Given as goal

abbrev pub invariant-loop-effect : goal.invariant-loop-effect
invariant-loop-effect l = l.view ≡ heard l.id (take l.effect-index l.items) l.fn.view
