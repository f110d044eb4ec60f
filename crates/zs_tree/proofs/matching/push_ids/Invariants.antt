use Rattle.std.proofs.Common.{◌≡◌, ◌++◌, ◌+◌, ◌-◌, ◌≤◌, length, take, vec_len, vec_capacity}
use Rattle.std.specs.Prelude.{map}
use Rattle.zs_tree.proofs.matching.push_ids.Given as goal

abbrev pub invariant-loop-entry : goal.invariant-loop-entry
invariant-loop-entry l =
    (l.into.items ≡ l.initial.into.items ++ map (λ e. e.id) (take l.entry-index l.run))
    × (vec_len l.into + (length l.run - l.entry-index) ≤ vec_capacity l.into)
