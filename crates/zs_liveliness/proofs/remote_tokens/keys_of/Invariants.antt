use Rattle.std.proofs.Common.{◌≡◌, take}
use Rattle.zs_liveliness.specs.RemoteTokens.{keys_at}
use Rattle.zs_liveliness.proofs.remote_tokens.keys_of.Given as goal

abbrev pub invariant-loop-number : goal.invariant-loop-number
invariant-loop-number l = l.keys.items ≡ keys_at l.tokens (take l.number-index l.numbers)
