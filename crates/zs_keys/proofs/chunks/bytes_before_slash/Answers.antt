use Rattle.std.proofs.Common.{arith}
use Rattle.zs_keys.proofs.Cut.{place-found, place-none}
use Rattle.zs_keys.proofs.chunks.bytes_before_slash.Goals as goal

pub returns-then-byte-eq47 : goal.returns-then-byte-eq47
returns-then-byte-eq47 c = place-found _ _ c.loop-place-test.true c.loop-place.invariant c.if-byte-eq47.true

pub returns : goal.returns
returns c = place-none _ (λ k small. c.loop-place.invariant k (omega arith))
