use Rattle.std.proofs.Common.{◌≡◌, ℕ, ◌≤◌, ◌+◌, ◌-◌, ◌++◌, ◌==◌, List, true, false}
use Rattle.std.specs.Prelude.{is_some}
use Rattle.std.specs.List.{position}
use Rattle.zs_keys.specs.Stream.{TakesOff, count_after}
use Rattle.zs_lines.specs.Reading.{Reads, IsAtEnd, IsSpent, work}
use Rattle.zs_lines.proofs.reader.LineReader.next.Given as goal

abbrev pub invariant-reads : goal.invariant-reads
invariant-reads g l = record {
  read : (gave : List ℕ) × TakesOff (g.S.Source.left l.fn.source) gave (g.S.Source.left l.source)
      × Reads l.fn.self l.self gave × (l.self.held ≡ l.fn.self.held ++ gave);
  given : l.self.given ≡ l.fn.self.given;
  line_max : l.self.line_max ≡ l.fn.self.line_max;
  at_end : IsAtEnd l.fn.self (g.S.Source.left l.fn.source) → l.self.ended ≡ true
      → IsSpent (g.S.Source.left l.fn.source) (g.S.Source.left l.source);
  still : l.fn.self.ended ≡ true → l.source ≡ l.fn.source;
  held : is_some (position (λ b. b == 10) l.fn.self.held) ≡ true → (l.source ≡ l.fn.source) × (l.self ≡ l.fn.self);
  pieces : g.S.Source.pieces l.source ≡ count_after (g.S.Source.pieces l.fn.source) (l.fn.self.turns - l.self.turns);
  reads : l.self.ended ≡ false
      → g.S.Source.reads l.source ≡ count_after (g.S.Source.reads l.fn.source) (l.fn.self.turns - l.self.turns);
  seen : l.fn.self.ended ≡ false → l.self.ended ≡ true
      → g.S.Source.reads l.source ≡ count_after (g.S.Source.reads l.fn.source) (l.fn.self.turns - l.self.turns + 1);
  less : work l.self ≤ work l.fn.self;
  calm : g.S.Source.faults l.source ≡ g.S.Source.faults l.fn.source;
}

abbrev pub decreases-reads : goal.decreases-reads
decreases-reads g l = work l.self
