use Rattle.std.proofs.Common.{◌≡◌, ℕ, ◌+◌, ◌-◌, ◌≤◌, List, ◌++◌, length, Some}
use Rattle.zs_keys.specs.Stream.{count_after}
use Rattle.zs_bytes.proofs.loading.from_reader.Given as goal

abbrev pub invariant-reads : goal.invariant-reads
invariant-reads g l = record {
  read : (left : List ℕ) → g.S.Source.left l.fn.source ≡ Some left
      → (now : List ℕ) × (g.S.Source.left l.source ≡ Some now) × (left ≡ l.bytes.items ++ now) × (length now + l.turns ≤ length left + l.turns_left);
  within : l.turns_left ≤ l.turns;
  reads : g.S.Source.reads l.source ≡ count_after (g.S.Source.reads l.fn.source) (l.turns - l.turns_left);
  pieces : g.S.Source.pieces l.source ≡ count_after (g.S.Source.pieces l.fn.source) (l.turns - l.turns_left);
  later : g.S.Source.faults l.fn.source ≤ g.S.Source.faults l.source;
}

abbrev pub decreases-reads : goal.decreases-reads
decreases-reads g l = l.turns_left
