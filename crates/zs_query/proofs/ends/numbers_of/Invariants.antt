use Rattle.std.proofs.Common.{◌≡◌, ℕ, List, take}
use Rattle.std.specs.Prelude.{map}
use Rattle.zs_sample.specs.Reply.{Replied}
use Rattle.zs_query.proofs.ends.numbers_of.Given as goal

abbrev pub invariant-loop-end : goal.invariant-loop-end
invariant-loop-end l = l.numbers.items ≡ map (λ (end : ℕ × List Replied). end.0) (take l.end-index l.ends)
