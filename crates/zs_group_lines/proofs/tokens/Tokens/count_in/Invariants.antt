use Rattle.std.proofs.Common.{◌≡◌, take}
use Rattle.zs_group_lines.specs.Tokens.{with_held}
use Rattle.zs_group_lines.proofs.tokens.Tokens.count_in.Given as goal

abbrev pub invariant-loop-token : goal.invariant-loop-token
invariant-loop-token l = l.view ≡ with_held (take l.token-index l.held) l.fn.view
