use Rattle.std.proofs.Common.{◌≡◌, ◌+◌, ◌-◌, ◌≤◌, length, take}
use Rattle.zs_bytes.specs.Reading.{unread}
use Rattle.zs_bytes.proofs.reader.ZBytesReader.takes.Given as goal

abbrev pub invariant-pieces : goal.invariant-pieces
invariant-pieces l = record {
  within : l.count ≤ length l.bytes;
  same : take l.count (unread l.fn.self) ≡ take l.count l.bytes;
  after : l.self ≡ record l.fn.self { position = l.fn.self.position + l.count };
}

abbrev pub decreases-pieces : goal.decreases-pieces
decreases-pieces l = length l.bytes - l.count
