use Rattle.std.proofs.Common.{◌≡◌, ◌+◌, ◌-◌, ◌≤◌}
use Rattle.zs_bytes.proofs.reader.ZBytesReader.skip.Given as goal

abbrev pub invariant-pieces : goal.invariant-pieces
invariant-pieces l = record {
  less : l.left ≤ l.count;
  after : l.self ≡ record l.fn.self { position = l.fn.self.position + (l.count - l.left) };
}

abbrev pub decreases-pieces : goal.decreases-pieces
decreases-pieces l = l.left
